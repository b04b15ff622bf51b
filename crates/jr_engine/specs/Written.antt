-- A changed program under its locks with its spellings, as the code holds it.
use Rattle.std.specs.Prelude.{◌≡◌, ◌⊎◌, ℕ, ◌+◌, ◌<◌, ◌^◌, ◌++◌, Bool, List, Ok, is_some, length, ⊤}
use Rattle.std.specs.FinMap as files
use Rattle.std.specs.Option.{option_map_or}
use Rattle.jr_front.specs.Bound.{IsBoundIn, IsIndexed, rows_in, table_in}
use Rattle.jr_front.specs.declared.workspace.Workspace.{Workspace}
use Rattle.jr_tree.specs.Rows.{Rows}
use Rattle.jr_headed.specs.Founded.{IsProgram, AreWell}
use Rattle.jr_defs.specs.Program.{AreUnitsOf, prelude_files}
use Rattle.jr_defs.specs.Referents.{Table, entries}
use Rattle.jr_defs.specs.declared.program.Program.{Program}
use Rattle.jr_marks.specs.Made.{AreMade}
use Rattle.jr_prelude.specs.Begins.{BeginsWithLang}
use Rattle.jr_marks.specs.declared.marks.Marks.{Marks}
use Rattle.jr_edits.specs.Place.{EditList}
use Rattle.jr_weave.specs.Weaving.{AreRespelled}
use Rattle.jr_places.specs.Places.{ArePlaces}
use Rattle.jr_supers.specs.Supers.{IsWellHeaded, HasNoCycle}
use Rattle.jr_members.specs.Held.{ObjectIsBare}
use Rattle.jr_members.specs.Sources.{ArePlaced}
use Rattle.jr_bind.specs.Exact.{IsExact, IsBoundBy}
use Rattle.jr_bind.specs.Rebound.{AreLocks}
use Rattle.jr_constants.specs.Resting.{values_of}
use Rattle.jr_constants.specs.Tables.{item}
use Rattle.jr_types.specs.Typed.{types_in}
use Rattle.jr_flow_defs.specs.Meaning.{Meaning}
use Rattle.jr_meaning.specs.Kept.{KeepsBodies}
use Rattle.jr_lookup.specs.Imports.{AreImports}
use Rattle.jr_lookup.specs.Scopes.{AreScopes, AreTops}
use Rattle.jr_runs.specs.Respelled.{IsRespelled}
use Rattle.jr_locks.specs.Changed.{IsChanged, origins_by, copies_by}
use Rattle.jr_locks.specs.Origins.{origin_of, row_by}
use Rattle.jr_shapes.specs.declared.spelling.Spelling.{Spelling}
use Rattle.jr_edges.specs.Dispatched.{KeepsDispatch}
use Rattle.jr_engine.specs.Barring.{Bars}
use Rattle.jr_engine.specs.Comparing.{BreaksTypes}
use Rattle.jr_engine.specs.Steps.{AreFirst, IsHeld, KeepsFlow, IsAskedOf}
use Rattle.jr_engine.specs.Texts.{changed_files, written_files}
use Rattle.jr_engine.specs.declared.asked.Asked.{Asked}
use Rattle.jr_engine.specs.declared.fault.StepFault.{StepFault}
use Rattle.jr_engine.specs.declared.fault.StepFault.TheVariants as step
use Rattle.jr_engine.specs.declared.left.Left.{Left}
use Rattle.jr_engine.specs.declared.locked.Locked.{Locked}
use Rattle.jr_engine.specs.declared.tried.Spelled.{Spelled}

abbrev pub rows_of : Locked → Rows
rows_of locked = rows_in locked.program

abbrev pub locks_of : Locked → Table
locks_of locked = entries locked.locks.table.items

-- the new program is the changed one, written so
abbrev pub IsSpelledIn : Spelled → Workspace → Type 0
IsSpelledIn s new = IsRespelled (rows_of s.locked.now) (locks_of s.locked.now) s.spellings.now (rows_in new) (table_in new)

-- the files left are the changed program, written so
abbrev pub IsLeftOf : Locked → List Spelling → Left → Type 0
IsLeftOf locked all left = IsRespelled (rows_of locked) (locks_of locked) all (rows_in left.program) (table_in left.program) × IsHeld left

-- the program is this one, and its index tells where its rows stand
pub record IsIndexedAs (program : Program) (locked : Locked) : Type 0 where
  pub same : locked.program.program ≡ program
  pub indexed : IsIndexed program locked.program.index.value

-- the changed program is what the texts of the change read as, behind the prelude, and its index tells where its rows stand in them
pub record IsReadBy (a : Asked) (locked : Locked) : Type 0 where
  pub units : AreUnitsOf (prelude_files ++ changed_files a.old.now.program.units a.change.now.units.items) locked.program.program.units
  pub indexed : IsIndexed locked.program.program locked.program.index.value

-- the texts are those of the changed program with the edits of the spellings
pub record AreTextsOf (locked : Locked) (all : List Spelling) (texts : List (List ℕ × List ℕ)) : Type 0 where
  pub marks : Marks
  pub made : AreMade locked.program.program marks
  pub edits : List EditList
  pub respelled : AreRespelled marks (locks_of locked) all edits
  pub written : texts ≡ written_files locked.program.program.units edits

-- the files left are these
abbrev pub HasTextsOf : Locked → List Spelling → Left → Type 0
HasTextsOf locked all left = AreTextsOf locked all (files.entries left.files)

-- the texts of the changed program may not be left, for what is told
pub record HasBarredTexts (locked : Locked) (all : List Spelling) (why : StepFault) : Type 0 where
  pub texts : List (List ℕ × List ℕ)
  pub are : AreTextsOf locked all texts
  pub bars : Bars texts why

-- an expression of the changed program has another type than before, which is told as rule 45
abbrev pub IsRetypedIn : Asked → StepFault → Type 0
IsRetypedIn a (step.Broken rule place) = BreaksTypes (rows_in a.old.now) (table_in a.old.now) a.change.now rule
IsRetypedIn a other = ⊥

-- the files with these texts may not be left, by their texts or by the types of what they say
abbrev pub AreNotLeft : Asked → List (List ℕ × List ℕ) → StepFault → Type 0
AreNotLeft a texts (step.Differs place) = ⊤
AreNotLeft a texts step.OutOfMemory = ⊤
AreNotLeft a texts why = Bars texts why ⊎ IsRetypedIn a why

-- why no files are left; where memory is wanting, there may be no texts, and of what differs nothing is said
abbrev pub IsNotLeft : Asked → Locked → List Spelling → StepFault → Type 0
IsNotLeft a locked all (step.Differs place) = ⊤
IsNotLeft a locked all step.OutOfMemory = ⊤
IsNotLeft a locked all why = HasBarredTexts locked all why ⊎ IsRetypedIn a why

-- the change is that for which the request asks
abbrev pub IsAskedFor : Asked → Type 0
IsAskedFor a = IsAskedOf a.old.now a.project.now a.request.now (Ok a.change.now)

-- the changed program comes from the old one by the change, with the locks that follow and the first copies of old rows
pub record IsLockedBy (a : Asked) (locked : Locked) : Type 0 where
  pub changed : IsChanged (rows_in a.old.now) (table_in a.old.now) a.change.now (rows_of locked) (locks_of locked)
  pub origin : locked.locks.origin.items ≡ origins_by a.change.now
  pub copies : locked.locks.copy.items ≡ copies_by (origins_by a.change.now) (length (rows_in a.old.now))

-- the table of the changed program is that of its locks, and its supertypes, members and imports are those under them, where no type is above itself
pub record IsBoundByLocks (locked : Locked) : Type 0 where
  pub table : table_in locked.program ≡ locks_of locked
  pub places : ArePlaces (rows_of locked) locked.program.places.value
  pub scopes : ArePlaced (rows_of locked) locked.program.places.value → AreScopes (rows_of locked) locked.program.scopes.value
  pub tops : ArePlaced (rows_of locked) locked.program.places.value → AreTops (rows_of locked) locked.program.places.value locked.program.scopes.value
  pub imports : ArePlaced (rows_of locked) locked.program.places.value → AreImports (rows_of locked) (table_in locked.program) locked.program.bound.value.imports.value
  pub exact : IsExact (rows_of locked) locked.program.places.value locked.program.bound.value
  pub acyclic : IsWellHeaded (rows_of locked) → ObjectIsBare (rows_of locked) → HasNoCycle (rows_of locked) (table_in locked.program)

-- the rows of both programs can be counted, with room for three more; the changed one has one bare Object, and each of its locks may stand at its row
pub record IsSound (a : Asked) (locked : Locked) : Type 0 where
  pub few : length (rows_in a.old.now) + 3 < 2 ^ 32
  pub few_new : length (rows_of locked) + 3 < 2 ^ 32
  pub well : AreWell (rows_of locked)
  pub locks : AreLocks (rows_of locked) locked.program.bound.value.table.items

-- what names, types and constants mean by the tables of a program
abbrev pub meaning_in : Workspace → Meaning
meaning_in w = record { targets = table_in w; values = values_of w.bound.value.constants.value; types = types_in w.bound.value.types.items }

-- each body that the change leaves alone keeps its edges of control and those from definitions to uses in its copy
abbrev pub KeepsBodiesIn : Asked → Locked → Type 0
KeepsBodiesIn a locked = KeepsBodies (rows_in a.old.now) (rows_of locked) (meaning_in a.old.now) (meaning_in locked.program) a.change.now

-- what is known of a changed program under its locks, whose rows and locks are as in all programs
pub record IsReady (a : Asked) (locked : Locked) : Type 0 where
  pub asked : IsAskedFor a
  pub old : IsBoundIn a.old.now
  pub new : IsProgram (rows_of locked)
  pub begins : BeginsWithLang (rows_of locked)
  pub read : IsReadBy a locked
  pub sound : IsSound a locked
  pub by : IsLockedBy a locked
  pub bound : IsBoundByLocks locked

-- the row is to be a constant expression: as the old one was, or by the locks
abbrev pub is_constant_by : Asked → Locked → ℕ → Bool
is_constant_by a locked n = option_map_or (λ from. is_some (item a.old.now.bound.value.constants.value.values.items from)) (row_by (origin_of locked.locks.origin.items n))
    (is_some (item locked.program.bound.value.constants.value.values.items n))

-- the rows are those of a program with one bare Object, and the tables are those under its own table
pub record HasTables (w : Workspace) : Type 0 where
  pub program : IsProgram (rows_in w)
  pub bare : ObjectIsBare (rows_in w)
  pub under : IsBoundBy (rows_in w) w.places.value w.bound.value

-- these are the first spellings that fit
abbrev pub AreFirstIn : Asked → Locked → List Spelling → Type 0
AreFirstIn a locked all = AreFirst (rows_in a.old.now) (table_in a.old.now) a.change.now (rows_of locked) (locks_of locked) all

-- control goes in the changed program as it went in the old one
abbrev pub KeepsFlowIn : Asked → Locked → Type 0
KeepsFlowIn a locked = KeepsFlow (rows_in a.old.now) (table_in a.old.now) a.change.now (rows_of locked) (locks_of locked)

-- calls find in the changed program what they found in the old one
abbrev pub KeepsCallsIn : Asked → Locked → Type 0
KeepsCallsIn a locked = KeepsDispatch (rows_in a.old.now) (table_in a.old.now) (rows_of locked) (locks_of locked) (copies_by (origins_by a.change.now) (length (rows_in a.old.now)))
