-- What one request after another leaves of files.
use Rattle.std.specs.Prelude.{◌≡◌, ◌⊎◌, ℕ, ◌^◌, ◌<◌, ◌+◌, Bool, List, [], ◌∷◌, true, Option, Some, None, Result, Ok, IsTrue, is_some, length}
use Rattle.std.specs.FinMap as files
use Rattle.std.specs.List.{AllByRecursion}
use Rattle.std.specs.Option.{option_map_or}
use Rattle.jr_base.specs.Files.{FileMap}
use Rattle.jr_base.specs.Paths.{is_java}
use Rattle.jr_base.specs.declared.request.Request.{Request}
use Rattle.jr_tree.specs.Rows.{Rows}
use Rattle.jr_defs.specs.Program.{rows_of}
use Rattle.jr_defs.specs.Referents.{Table, entries}
use Rattle.jr_defs.specs.declared.program.Program.{Program}
use Rattle.jr_base.specs.declared.constant.Const.{Const}
use Rattle.jr_defs.specs.Constants.{Constant}
use Rattle.jr_plain.specs.Constants.{constants, has_constant_form}
use Rattle.jr_plain.specs.Conversions.{Constants}
use Rattle.jr_plain.specs.Overloads.{Types}
use Rattle.jr_plain.specs.Typing.{IsTypable, expression_types}
use Rattle.jr_flow_defs.specs.Meaning.{Meaning}
use Rattle.jr_kept.specs.Courses.{KeepsCourse, KeepsRaisedFlow, KeepsUsesOf}
use Rattle.jr_meaning.specs.Kept.{KeepsBodies}
use Rattle.jr_shapes.specs.declared.spelling.Spelling.{Spelling}
use Rattle.jr_spell.specs.Spelling.{HasLock, HasSpelling, IsAsItStands, IsWritten as Says, first_written}
use Rattle.jr_spelling_rules.specs.Spelling.{IsSpelling, Written}
use Rattle.jr_index.specs.NodeRows.{unit_rows}
use Rattle.jr_marks.specs.Made.{AreMade}
use Rattle.jr_marks.specs.Places.{IsOrdered}
use Rattle.jr_change.specs.declared.change.Change.{Change}
use Rattle.jr_change.specs.declared.project.Project.{Project}
use Rattle.jr_change.specs.declared.reason.ChangeFault.{ChangeFault}
use Rattle.jr_draft.specs.Asking.{table_of}
use Rattle.jr_extract.specs.Extracting.{IsSeenAs}
use Rattle.jr_engine.specs.Requested.{IsAskedBy, keeps_all}
use Rattle.jr_engine.specs.Texts.{HaveTexts}
use Rattle.jr_locks.specs.Changed.{IsChanged, origins_by, copies_by}
use Rattle.jr_locks.specs.Origins.{origin_of, row_by}
use Rattle.jr_edges.specs.Dispatched.{KeepsDispatch}
use Rattle.jr_runs.specs.Respelled.{IsRespelled}
use Rattle.jr_read.specs.Reading.{ReadsAs}
use Rattle.jr_supers.specs.Tabled.{IsSized}
use Rattle.jr_dispatch.specs.Methods.{IsWholeWorld}
use Rattle.jr_flow_faults.specs.Reading.{IsThrowingView}
use Rattle.jr_front.specs.Bound.{rows_in, table_in, IsBoundIn, IsIndexed}
use Rattle.jr_front.specs.Compiling.{Compiles}
use Rattle.jr_front.specs.Viewed.{HasTablesOfRows, IsViewOf}
use Rattle.jr_front.specs.declared.workspace.Workspace.{Workspace}
use Rattle.jr_engine.specs.declared.left.Left.{Left}

-- files, the rows of their program, and what each row refers to
pub record Opened : Type 0 where
  pub files : FileMap
  pub rows : Rows
  pub table : Table

-- the files, whose paths end in `.java`, are a program, these are its rows, and by their binding, which is the table, it compiles
pub record IsOpened (o : Opened) : Type 0 where
  pub program : Program
  pub reads : ReadsAs o.files (Ok program)
  pub are : o.rows ≡ rows_of program
  pub compiles : Compiles o.files program o.table
  pub java : AllByRecursion (λ path. IsTrue (is_java path)) (files.keys o.files)

-- ---- spellings

-- the values of the constant expressions of a program, and the types of its expressions (JLS 15, 15.28)
abbrev pub values : Rows → Table → Constants
values p t = constants p t (has_constant_form p t)

abbrev pub types : Rows → Table → Types
types p t = expression_types p t (values p t)

-- a reference of the changed program is to be a constant expression: one that comes from an old row as that was one, and an added one by the locks
abbrev pub is_constant : Rows → Table → Change → Rows → Table → ℕ → Bool
is_constant p t change q l n = option_map_or (λ from. is_some (values p t from)) (row_by (origin_of (origins_by change) n)) (is_some (values q l n))

-- of all ways to write the reference in the changed program the spelling is the first that fits (JLS 6.5, 6.6, 15.28)
pub record IsFirst (p : Rows) (t : Table) (change : Change) (q : Rows) (l : Table) (a : Spelling) : Type 0 where
  pub written : Written
  pub first : IsSpelling q l (types q l) (is_constant p t change q l) (first_written (unit_rows q (length q))) a.row written
  pub says : Says a.row (Some a) (Some written)

-- of all ways to write the reference the first that fits is how it stands in the changed program
pub record StaysFirst (p : Rows) (t : Table) (change : Change) (q : Rows) (l : Table) (n : ℕ) : Type 0 where
  pub written : Written
  pub first : IsSpelling q l (types q l) (is_constant p t change q l) (first_written (unit_rows q (length q))) n written
  pub stands : IsAsItStands q l n written

-- so is each spelling, and each reference with a lock that has none stays as it stands
pub record AreFirst (p : Rows) (t : Table) (change : Change) (q : Rows) (l : Table) (all : List Spelling) : Type 0 where
  pub each : AllByRecursion (λ a. IsFirst p t change q l a) all
  pub others : (n : ℕ) → HasLock q l n → HasSpelling all n ⊎ StaysFirst p t change q l n

-- The files left are a changed program in which the first spelling that fits stands at each reference: they have its texts, with each reference as it is spelled or as it stands, each of its rows
-- stands there, and by the binding of the rows of the files left each reference refers to its lock.
pub record IsWritten (old : Opened) (change : Change) (rows : Rows) (locks : Table) (left : Opened) : Type 0 where
  pub opened : IsOpened left
  pub spellings : List Spelling
  pub first : AreFirst old.rows old.table change rows locks spellings
  pub texts : HaveTexts old.files change rows locks spellings left.files
  pub respelled : IsRespelled rows locks spellings left.rows left.table

-- what names refer to by the table, with types of expressions by values, and the values of constants, all of them where each expression has one type (JLS 15, 15.28)
pub record IsMeaningOf (p : Rows) (t : Table) (m : Meaning) : Type 0 where
  pub targets : m.targets ≡ t
  pub types : (n : ℕ) → m.types n ≡ expression_types p t m.values n
  pub sound : (n : ℕ) (v : Const) → m.values n ≡ Some v → Constant p t n v
  pub whole : IsTypable p t → (n : ℕ) → m.values n ≡ constants p t (has_constant_form p t) n

-- the program of the files with its marks and tables, as changes read it: its supertypes and members are those under the binding, of each row the type and the value are those of the definitions, and java.lang has
-- one class of each name by which what is thrown is checked
pub record IsProjectOf (o : Opened) (old : Project) : Type 0 where
  pub program : Program
  pub reads : ReadsAs o.files (Ok program)
  pub made : AreMade program old.marks
  pub rows : old.marks.rows.now ≡ o.rows
  pub table : entries (table_of old) ≡ o.table
  pub whole : IsWholeWorld (entries (table_of old)) old.view.sight.world
  pub view_rows : old.view.sight.world.under.rows.now ≡ old.marks.rows.now
  pub sized : IsSized old.marks.rows.now
  pub tables : HasTablesOfRows old.view
  pub throwing : IsThrowingView old.view
  -- where there are not too many rows, it is as flow reads it by the meaning of names, types and constants
  pub flow : length o.rows + 3 < 2 ^ 32 → (m : Meaning) × IsMeaningOf o.rows o.table m × IsSeenAs old m

-- the answer is the change for which the request asks, or why there is none
pub record IsRequested (o : Opened) (request : Request) (answer : Result Change ChangeFault) : Type 0 where
  pub old : Project
  pub project : IsProjectOf o old
  pub asked : IsAskedBy old request answer

-- a call finds in each class, where it still stands, the method that it found there (JLS 15.12.4.4)
abbrev pub KeepsCalls : Opened → Change → Rows → Table → Type 0
KeepsCalls old change rows locks = KeepsDispatch old.rows old.table rows locks (copies_by (origins_by change) (length old.rows))

-- after an inlining and an extraction control goes from statement to statement as it went (`KeepsControl`), and the same definitions reach each use
-- (`KeepsInlinedFlow`, `KeepsExtractedFlow`), so it is in a method that is pulled up (`KeepsRaisedFlow`), and in each body that the change leaves alone (`KeepsBodies`)
pub record KeepsFlow (p : Rows) (t : Table) (change : Change) (q : Rows) (l : Table) : Type 0 where
  pub before : Meaning
  pub after : Meaning
  pub before_is : IsMeaningOf p t before
  pub after_is : IsMeaningOf q l after
  pub kept : KeepsCourse change.course p q before after (origins_by change) (copies_by (origins_by change) (length p))
  pub uses : KeepsUsesOf change.course p q before after (origins_by change) (copies_by (origins_by change) (length p))
  pub raised : KeepsRaisedFlow change.raised p q before after (origins_by change) (copies_by (origins_by change) (length p))
  pub bodies : KeepsBodies p q before after change

-- What a request leaves: the files as they are, where the change for which it asks keeps all units, or those of a changed program in which each row that comes from
-- an old one must refer to what that referred to, where it stands now, calls find what they found, and control goes as it went.
pub data IsStep (old : Opened) (request : Request) : Opened → Type 0 where
  stays : {change : Change} (asked : IsRequested old request (Ok change)) → keeps_all asked.project.program.units change.units.items ≡ true → IsStep old request old
  leaves : {rows : Rows} {locks : Table} {left : Opened} (change : Change) → IsRequested old request (Ok change) → IsChanged old.rows old.table change rows locks → KeepsCalls old change rows locks → KeepsFlow old.rows old.table change rows locks → IsWritten old change rows locks left
      → IsStep old request left

-- a step a request, each from what the one before has left
pub data AreSteps : Opened → List Request → Opened → Type 0 where
  none : {old : Opened} → AreSteps old [] old
  more : {old next last : Opened} {request : Request} {requests : List Request} → IsStep old request next → AreSteps next requests last
      → AreSteps old (request ∷ requests) last

-- ---- what the code holds of it

abbrev pub opened : FileMap → Workspace → Opened
opened found w = record { files = found; rows = rows_in w; table = table_in w }

abbrev pub opened_by : Left → Opened
opened_by left = opened left.files left.program

-- the program is that of the files, with its rows and marks, and its table their binding, with the tables under it
pub record IsRead (found : FileMap) (w : Workspace) : Type 0 where
  pub reads : ReadsAs found (Ok w.program)
  pub indexed : IsIndexed w.program w.index.value
  pub bound : IsBoundIn w
  pub compiles : Compiles found w.program (table_in w)

-- the program is that of the files, whose paths end in `.java`
pub record IsHeld (left : Left) : Type 0 where
  pub read : IsRead left.files left.program
  pub java : AllByRecursion (λ path. IsTrue (is_java path)) (files.keys left.files)

-- whatever the files of the old program, these are what the request leaves of them
pub record IsFollowed (old : Workspace) (request : Request) (left : Left) : Type 0 where
  pub ends : IsHeld left
  pub step : (found : FileMap) → IsRead found old → IsStep (opened found old) request (opened_by left)

-- what is left by a request of a program: the files as they are, or others
abbrev pub LeftBy : Workspace → Request → Option Left → Type 0
LeftBy old request None = (found : FileMap) → IsRead found old → IsStep (opened found old) request (opened found old)
LeftBy old request (Some left) = IsFollowed old request left

-- the project is that of the program, with its marks where the index has them
pub record IsProjectIn (w : Workspace) (old : Project) : Type 0 where
  pub made : IsIndexed w.program w.index.value → AreMade w.program old.marks
  pub rows : old.marks.rows.now ≡ rows_in w
  pub table : table_of old ≡ w.bound.value.table.items
  pub view : IsViewOf (rows_in w) w.places.value w.scopes.value w.bound.value old.view

-- and the answer is the change for which the request asks of it, by marks in order, or why there is none
pub record IsAskedOf (w : Workspace) (old : Project) (request : Request) (answer : Result Change ChangeFault) : Type 0 where
  pub of : IsProjectIn w old
  pub ordered : IsOrdered old.marks
  pub asked : IsAskedBy old request answer
