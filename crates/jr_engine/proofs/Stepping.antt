-- What is known of a step by its parts, and of steps one after another.
use Rattle.std.proofs.Common.{◌≡◌, ◌∙◌, ◌⊎◌, inl, inr, Decides, ◌+◌, ◌-◌, min, ◌<◌, ◌^◌, ap, refl, true, Bool, Option, Some, None, is_some, List, append_assoc, [], ◌∷◌, ◌++◌, ℕ, Result, Ok, Err, IfErr, IfOk, IsTrue, length, map, arith, sym, subst}
use Rattle.std.proofs.lemmas.List.{append-nil, length_push}
use Rattle.std.proofs.lemmas.Option.{none-some, same_Some}
use Rattle.std.specs.FinMap as files
use Rattle.std.specs.List.{AllByRecursion}
use Rattle.jr_base.specs.Files.{FileMap}
use Rattle.jr_base.specs.Paths.{is_java}
use Rattle.jr_base.specs.declared.limits.Size.{Size}
use Rattle.jr_base.specs.declared.memory.OutOfMemory.{OutOfMemory}
use Rattle.jr_base.specs.declared.limits.Size.TheVariants as size
use Rattle.jr_rule.specs.declared.Rule.{Rule}
use Rattle.jr_rule.specs.declared.Rule.TheVariants.{TypeChange}
use Rattle.jr_base.specs.declared.request.Request.{Request}
use Rattle.jr_base.specs.declared.token.Place.{Place}
use Rattle.jr_tree.specs.Shape.{IsShaped}
use Rattle.jr_defs.specs.Program.{rows_of}
use Rattle.jr_defs.specs.declared.program.Program.{Program}
use Rattle.jr_read.specs.Reading.{ReadsAs}
use Rattle.jr_front.specs.Bound.{IsBoundIn, IsIndexed, rows_in, table_in}
use Rattle.jr_front.specs.Checking.{CheckedAs, accepted}
use Rattle.jr_front.specs.Compiling.{Compiles}
use Rattle.jr_front.proofs.Reading.{read_begins}
use Rattle.jr_front.proofs.Refusals.{ordered_so}
use Rattle.jr_front.proofs.Testable.{tables_view, testable_view}
use Rattle.jr_front.proofs.Viewed.{seen_view, whole_view, whole_world}
use Rattle.jr_front.specs.Viewed.{IsViewOf}
use Rattle.jr_front.specs.declared.fault.FrontFault.{FrontFault}
use Rattle.jr_front.specs.declared.workspace.Workspace.{Workspace}
use Rattle.jr_engine.specs.Barring.{Bars}
use Rattle.jr_engine.specs.Comparing.{ComparesLarge, Comparison, LosesControl, LosesUses}
use Rattle.jr_engine.specs.Planning.{IsAccepted, PlannedAs, RefusedAs}
use Rattle.jr_engine.specs.Refusing.{HasCause, HasLargeBody, IsBarred, IsCausedBy, IsHinderedIn, IsNumber, IsLargeIn, IsOfFiles, IsRefusedFrom, IsShownAt, IsToldAs, IsToldNumber, IsTooLarge, fault_of}
use Rattle.jr_engine.specs.Steps.{IsProjectIn, Opened, IsOpened, IsRead, IsHeld, IsMeaningOf, IsAskedOf, IsRequested, LeftBy, IsStep, stays, leaves, AreSteps, none, more, IsFollowed, opened, opened_by}
use Rattle.jr_tree.specs.Rows.{Rows}
use Rattle.jr_defs.specs.Referents.{Table, entries}
use Rattle.jr_defs.specs.declared.referent.Referent.{Referent}
use Rattle.jr_marks.specs.Places.{place_of_name}
use Rattle.jr_marks.specs.declared.marks.Marks.{Marks}
use Rattle.jr_change.specs.declared.change.Change.{Change}
use Rattle.jr_change.specs.declared.project.Locks.{Locks}
use Rattle.jr_change.specs.declared.project.Project.{Project}
use Rattle.jr_change.specs.declared.reason.ChangeFault.{ChangeFault}
use Rattle.jr_places.specs.declared.places.Places.{Places}
use Rattle.jr_places.specs.Places.{ArePlaces}
use Rattle.jr_supers.specs.declared.tabled.Tabled.{Tabled}
use Rattle.jr_supers.specs.Supers.{IsWellHeaded, HasNoCycle}
use Rattle.jr_members.specs.declared.members.World.{World}
use Rattle.jr_members.specs.Held.{ObjectIsBare}
use Rattle.jr_members.specs.Sources.{ArePlaced}
use Rattle.jr_lookup.specs.Imports.{AreImports}
use Rattle.jr_lookup.specs.Scopes.{AreScopes, AreTops}
use Rattle.jr_dispatch.specs.declared.dispatch.Methods.{Methods}
use Rattle.jr_dispatch.specs.Methods.{AreMethods, IsWholeWorld}
use Rattle.jr_headed.specs.Founded.{IsProgram, AreWell}
use Rattle.jr_headed.proofs.Founding.{program_headed, program_local}
use Rattle.jr_prelude.specs.Begins.{BeginsWithLang}
use Rattle.jr_bind.specs.declared.binder.Bound.{Bound}
use Rattle.jr_bind.specs.Exact.{IsExact, IsBoundBy, IsProgramIn}
use Rattle.jr_bind.proofs.Confirmed.{program_in}
use Rattle.jr_constants.specs.declared.constants.Constants.{Constants}
use Rattle.jr_constants.specs.declared.value.Value.{Value}
use Rattle.jr_constants.specs.Resting.{values_of}
use Rattle.jr_constants.specs.Tables.{item}
use Rattle.jr_constants.specs.Values.{value_in_if}
use Rattle.jr_types.specs.Typed.{types_in}
use Rattle.jr_defs.specs.declared.referent.RowType.{RowType}
use Rattle.jr_tree.specs.Tree.{IsTree}
use Rattle.jr_tree.proofs.Trees.{each_program_is_tree}
use Rattle.jr_supers.specs.Supers.{AreSupersOf}
use Rattle.jr_supers.specs.Tabled.{IsSized}
use Rattle.jr_flow_defs.specs.Meaning.{Meaning}
use Rattle.jr_flow.specs.Numbered.{OnlyWhere}
use Rattle.jr_flow.specs.Sizes.{HasTooLarge}
use Rattle.jr_flow.specs.declared.point.FlowFault.{FlowFault}
use Rattle.jr_flow.specs.declared.point.FlowFault.TheVariants as faults
use Rattle.jr_flow.specs.Views as flow
use Rattle.jr_inline.specs.Retyping.{AreCompared, IsRetyped, IsRetypedIf, IsTypedAs, Typed}
use Rattle.jr_kept.specs.Courses.{HandsByOneIn, HasLarge, IsSeen, KeepsCourse, KeepsRaisedControl, KeepsRaisedFlow, KeepsUsesOf}
use Rattle.jr_kept.specs.Started.{BeginsFirstIn, LeavesStartIn}
use Rattle.jr_kept.specs.declared.kept.LostEdge.{LostEdge}
use Rattle.jr_meaning.specs.Kept.{KeepsBodies}
use Rattle.jr_meaning.specs.Meaning.{IsMeant}
use Rattle.jr_meaning.specs.declared.reading.Meant.{Meant}
use Rattle.jr_extract.specs.Extracting.{IsSeenAs}
use Rattle.jr_shapes.specs.declared.spelling.Spelling.{Spelling}
use Rattle.jr_view.specs.declared.View.{View}
use Rattle.jr_engine.specs.Requested.{keeps_all}
use Rattle.jr_locks.specs.Changed.{IsChanged, origins_by, copies_by}
use Rattle.jr_locks.specs.Origins.{origin_of, row_by}
use Rattle.jr_edges.specs.Dispatched.{IsTold}
use Rattle.jr_edges.specs.declared.dispatched.Lost.{Lost}
use Rattle.jr_engine.proofs.Reading.{texts_left, texts_under}
use Rattle.jr_engine.specs.Written.{AreFirstIn, KeepsBodiesIn, meaning_in, HasBarredTexts, HasTextsOf, IsSpelledIn, IsLeftOf, IsAskedFor, IsLockedBy, IsBoundByLocks, HasTables, IsNotLeft, IsReadBy, IsReady, IsRetypedIn, IsSound, KeepsCallsIn, KeepsFlowIn, rows_of as rows_under, locks_of}
use Rattle.jr_engine.specs.declared.asked.Asked.{Asked}
use Rattle.jr_engine.specs.declared.fault.EngineFault.{EngineFault}
use Rattle.jr_engine.specs.declared.fault.EngineFault.TheVariants as fault
use Rattle.jr_engine.specs.declared.fault.LostKind.TheVariants as kind
use Rattle.jr_engine.specs.declared.fault.Refused.{Refused}
use Rattle.jr_engine.specs.declared.fault.StepFault.{StepFault}
use Rattle.jr_engine.specs.declared.fault.StepFault.TheVariants as step
use Rattle.jr_engine.specs.declared.left.Left.{Left}
use Rattle.jr_engine.specs.declared.locked.Locked.{Locked}
use Rattle.jr_engine.specs.declared.tried.Spelled.{Spelled}

pub read_so : (files : FileMap) (w : Workspace) → ReadsAs files (Ok w.program) → IsIndexed w.program w.index.value → IsBoundIn w → Compiles files w.program (table_in w) → IsRead files w
read_so files w reads indexed bound compiles = record { reads = reads; indexed = indexed; bound = bound; compiles = compiles }

-- so of equal files
pub read_copy : (files copy : FileMap) (w : Workspace) → copy ≡ files → ReadsAs files (Ok w.program) → IsIndexed w.program w.index.value → IsBoundIn w → Compiles files w.program (table_in w) → IsRead copy w
read_copy files copy w same reads indexed bound compiles = subst (λ (f : FileMap). IsRead f w) (sym same) (read_so files w reads indexed bound compiles)

pub held_so : (left : Left) → IsRead left.files left.program → AllByRecursion (λ path. IsTrue (is_java path)) (files.keys left.files) → IsHeld left
held_so left is java = record { read = is; java = java }

-- files that are held are those of their program
pub held_opened : (left : Left) → IsHeld left → IsOpened (opened_by left)
held_opened left is = record { program = left.program.program; reads = is.read.reads; are = is.read.indexed.rows; compiles = is.read.compiles; java = is.java }

pub held_bound : (left : Left) → IsHeld left → IsBoundIn left.program
held_bound left is = is.read.bound

pub held_indexed : (left : Left) → IsHeld left → IsIndexed left.program.program left.program.index.value
held_indexed left is = is.read.indexed

pub accepted_so : (o : Opened) → IsOpened o → IsAccepted o.files
accepted_so o is = record { checked = accepted is.reads is.compiles; java = is.java }

pub written_so : (s : Spelled) (left : Left) (w : Workspace) → left.program ≡ w → IsHeld left → IsSpelledIn s w → IsLeftOf s.locked.now s.spellings.now left
written_so s left w same is spelled = (subst (λ (v : Workspace). IsSpelledIn s v) (sym same) spelled, is)

-- ---- a project as flow reads it

meaning_is : (w : Workspace) → IsBoundBy (rows_in w) w.places.value w.bound.value → IsMeaningOf (rows_in w) (table_in w) (meaning_in w)
meaning_is w under = record { targets = refl; types = under.types_are; sound = under.constants_are.sound; whole = under.constants_are.whole }

some_value : (texts : List (List ℕ)) (value : Option Value) → is_some value ≡ is_some (value_in_if texts value)
some_value texts None = refl
some_value texts (Some value) = refl

-- the tables of a bound program
pub bound_tables : (w : Workspace) → IsBoundIn w → HasTables w
bound_tables w bound = record { program = bound.of.program; bare = (program_in (rows_in w) w.places.value w.scopes.value bound.of bound.binding.binding.well).bare; under = bound.binding.binding.under }

-- a view of them is seen by flow as it is
flow_view : (w : Workspace) (view : View) → HasTables w → length (rows_in w) + 3 < 2 ^ 32 → IsViewOf (rows_in w) w.places.value w.scopes.value w.bound.value view → flow.IsViewOf view (meaning_in w)
flow_view w view is few of = record {
  few = subst (λ (r : Rows). length r + 3 < 2 ^ 32) (sym of.rows_are) few;
  targets = ap entries of.table_is;
  supers = subst (λ (t : Table). AreSupersOf view.sight.world.under.rows.now t view.sight.world.supers.now) (ap entries of.table_is) (whole_world w view is.under of is.bare).world_is.seen.above;
  types = λ n. ap (λ (all : List (Option RowType)). types_in all n) of.types_are;
  constants = λ n. ap (λ (found : Constants). is_some (item found.values.items n)) of.constants_are ∙ some_value w.bound.value.constants.value.texts (item w.bound.value.constants.value.values.items n);
}

tree_of : (w : Workspace) → HasTables w → IsTree (rows_in w)
tree_of w is = subst (λ (r : Rows). IsTree r) (sym is.program.rows_are) (each_program_is_tree is.program.units)

-- and so is a project
seen_project : (w : Workspace) (project : Project) → HasTables w → length (rows_in w) + 3 < 2 ^ 32 → project.marks.rows.now ≡ rows_in w → IsViewOf (rows_in w) w.places.value w.scopes.value w.bound.value project.view
    → IsSeen project (meaning_in w)
seen_project w project is few rows of = record { rows = of.rows_are ∙ sym rows; view = flow_view w project.view is few of; tree = subst (λ (r : Rows). IsTree r) (sym rows) (tree_of w is) }

seen_as : (old : Project) (m : Meaning) → IsSeen old m → IsSeenAs old m
seen_as old m seen = record { rows = seen.rows; tree = subst (λ (r : Rows). IsTree r) (sym seen.rows) seen.tree; view = seen.view }

-- ---- the change of a request

requested : (found : FileMap) (w : Workspace) (old : Project) (request : Request) (answer : Result Change ChangeFault) → IsRead found w → IsAskedOf w old request answer → IsRequested (opened found w) request answer
requested found w old request answer is a = record {
  old = old;
  project = record {
    program = w.program;
    reads = is.reads;
    made = a.of.made is.indexed;
    rows = a.of.rows;
    table = ap entries a.of.table;
    whole = whole_view w old.view is.bound a.of.view;
    view_rows = a.of.view.rows_are ∙ sym a.of.rows;
    sized = subst IsSized (a.of.view.rows_are ∙ sym a.of.rows) (seen_view w old.view is.bound a.of.view).sized;
    tables = tables_view w old.view is.bound a.of.view;
    throwing = (testable_view w old.view is.bound a.of.view (subst BeginsWithLang (sym is.indexed.rows) (read_begins found w.program is.reads))).throwing;
    flow = λ few. (
      meaning_in w,
      meaning_is w is.bound.binding.binding.under,
      seen_as old (meaning_in w) (seen_project w old (bound_tables w is.bound) few a.of.rows a.of.view),
    );
  };
  asked = a.asked;
}

-- a change that keeps all units leaves the files as they are
pub stays_so : (w : Workspace) (old : Project) (request : Request) (change : Change) → IsAskedOf w old request (Ok change) → keeps_all w.program.units change.units.items ≡ true → LeftBy w request None
unfolding requested
stays_so w old request change a keeps = λ found is. stays (requested found w old request (Ok change) is a) keeps

-- why there is no change is a cause, and so is why a change is hindered
pub no_change_caused : (w : Workspace) (old : Project) (request : Request) (why : ChangeFault) → IsAskedOf w old request (Err why) → IsCausedBy w request (fault.Step (fault_of why))
no_change_caused w old request why a = λ found is. HasCause.no_change (requested found w old request (Err why) is a)

pub hindered_caused : (a : Asked) (why : StepFault) → IsAskedFor a → IsHinderedIn a why → IsCausedBy a.old.now a.request.now (fault.Step why)
unfolding requested
hindered_caused a why asked is = λ found read. HasCause.hindered (requested found a.old.now a.project.now a.request.now (Ok a.change.now) read asked) is

pub flow_caused : (w : Workspace) (request : Request) (why : StepFault) → IsLargeIn w why → IsCausedBy w request (fault.Step why)
flow_caused w request (step.TooLarge size.Flow) is = λ found read. HasCause.large is
flow_caused w request step.OutOfMemory is = λ found read. HasCause.memory
flow_caused w request _ is = absurd is

-- so of the fault that is told
pub told_caused : (w : Workspace) (request : Request) (why told : EngineFault) → IsToldAs why told → IsCausedBy w request why → IsCausedBy w request told
told_caused w request why _ IsToldAs.told h = h
told_caused w request why _ IsToldAs.no_room h = λ found read. HasCause.memory

pub told_memory : (why told : EngineFault) → told ≡ fault.Step step.OutOfMemory → IsToldAs why told
told_memory why told e = subst (λ (f : EngineFault). IsToldAs why f) (sym e) IsToldAs.no_room

pub no_change_caused_as : (w : Workspace) (old : Project) (request : Request) (why : ChangeFault) (told : StepFault) → told ≡ fault_of why → IsAskedOf w old request (Err why) → IsCausedBy w request (fault.Step told)
no_change_caused_as w old request why told e a = subst (λ (f : StepFault). IsCausedBy w request (fault.Step f)) (sym e) (no_change_caused w old request why a)

-- ---- what hinders a change

told_hinders : (a : Asked) (why told : StepFault) → told ≡ why → IsHinderedIn a why → IsHinderedIn a told
told_hinders a why told e h = subst (λ (f : StepFault). IsHinderedIn a f) (sym e) h

-- a body of the changed program is too large
flow_hinders : (a : Asked) (locked : Locked) (told : StepFault) → IsLockedBy a locked → table_in locked.program ≡ locks_of locked → IsLargeIn locked.program told → IsHinderedIn a told
flow_hinders a locked (step.TooLarge size.Flow) by table is =
    IsTooLarge.by_flow (record { rows = rows_under locked; locks = locks_of locked; changed = by.changed; large = subst (λ (l : Table). HasLargeBody (rows_under locked) l) table is })
flow_hinders a locked step.OutOfMemory by table is = tt
flow_hinders a locked _ by table is = absurd is

pub flow_hinders_if : (a : Asked) (locked : Locked) (result : Result (Unit {0}) StepFault) → IsLockedBy a locked → table_in locked.program ≡ locks_of locked → IfErr result (IsLargeIn locked.program)
    → IfErr result (IsHinderedIn a)
flow_hinders_if a locked (Ok _) by table is = tt
flow_hinders_if a locked (Err why) by table is = flow_hinders a locked why by table is

pub control_hinders : (a : Asked) (first second : Place) (is_old : Bool) (told : StepFault) → LosesControl (rows_in a.old.now) (table_in a.old.now) a.change.now → told ≡ step.LostEdge kind.Control first second is_old → IsHinderedIn a told
control_hinders a first second is_old told lost e = told_hinders a _ told e lost

pub uses_hinder : (a : Asked) (first second : Place) (is_old : Bool) (told : StepFault) → LosesUses (rows_in a.old.now) (table_in a.old.now) a.change.now → told ≡ step.LostEdge kind.DefUse first second is_old → IsHinderedIn a told
uses_hinder a first second is_old told lost e = told_hinders a _ told e lost

pub memory_hinders : (a : Asked) (told : StepFault) → told ≡ step.OutOfMemory → IsHinderedIn a told
memory_hinders a told e = told_hinders a _ told e tt

-- the files that were to be left are the texts of the changed program with the first spellings
to_be_left : (a : Asked) (locked : Locked) (all : List Spelling) (why : StepFault) → IsLockedBy a locked → AreFirstIn a locked all → IsReadBy a locked → HasBarredTexts locked all why
    → IsBarred a.old.now.program.units (rows_in a.old.now) (table_in a.old.now) a.change.now why
to_be_left a locked all why by first read h = record {
  texts = h.texts;
  are = record { rows = rows_under locked; locks = locks_of locked; changed = by.changed; spellings = all; first = first; texts_are = texts_under a locked all h.texts read h.are };
  bars = h.bars;
}

rule_hinders : (a : Asked) (locked : Locked) (all : List Spelling) (rule : Rule) (place : Place) → IsLockedBy a locked → AreFirstIn a locked all → IsReadBy a locked
    → HasBarredTexts locked all (step.Broken rule place) ⊎ IsRetypedIn a (step.Broken rule place) → IsHinderedIn a (step.Broken rule place)
rule_hinders a locked all rule place by first read (inl h) = inl (to_be_left a locked all (step.Broken rule place) by first read h)
rule_hinders a locked all rule place by first read (inr h) = inr h

size_hinders : (a : Asked) (locked : Locked) (all : List Spelling) (what : Size) → IsLockedBy a locked → AreFirstIn a locked all → IsReadBy a locked
    → HasBarredTexts locked all (step.TooLarge what) ⊎ IsRetypedIn a (step.TooLarge what) → IsHinderedIn a (step.TooLarge what)
size_hinders a locked all what by first read (inl h) = IsTooLarge.by_files (to_be_left a locked all (step.TooLarge what) by first read h)
size_hinders a locked all what by first read (inr h) = absurd h

none_bars : (a : Asked) (locked : Locked) (all : List Spelling) (why : StepFault) → ((texts : List (List ℕ × List ℕ)) → Bars texts why → ⊥) → (IsRetypedIn a why → ⊥) → HasBarredTexts locked all why ⊎ IsRetypedIn a why → ⊥
none_bars a locked all why unbarred kept (inl h) = unbarred h.texts h.bars
none_bars a locked all why unbarred kept (inr h) = kept h

not_left_hinders : (a : Asked) (locked : Locked) (all : List Spelling) (why : StepFault) → IsLockedBy a locked → AreFirstIn a locked all → IsReadBy a locked → IsNotLeft a locked all why → IsHinderedIn a why
not_left_hinders a locked all (step.Broken rule place) by first read h = rule_hinders a locked all rule place by first read h
not_left_hinders a locked all (step.TooLarge what) by first read h = size_hinders a locked all what by first read h
not_left_hinders a locked all (step.Differs place) by first read h = tt
not_left_hinders a locked all step.OutOfMemory by first read h = tt
not_left_hinders a locked all (step.BadRequest reason) by first read h = absurd (none_bars a locked all (step.BadRequest reason) (λ texts b. b) (λ b. b) h)
not_left_hinders a locked all (step.NoSpelling occ place lock) by first read h = absurd (none_bars a locked all (step.NoSpelling occ place lock) (λ texts b. b) (λ b. b) h)
not_left_hinders a locked all (step.LostEdge lost one two is_old) by first read h = absurd (none_bars a locked all (step.LostEdge lost one two is_old) (λ texts b. b) (λ b. b) h)
not_left_hinders a locked all (step.StillUsed place) by first read h = absurd (none_bars a locked all (step.StillUsed place) (λ texts b. b) (λ b. b) h)

pub not_left_hinders_if : (a : Asked) (locked : Locked) (all : List Spelling) (result : Result Left StepFault) → IsLockedBy a locked → AreFirstIn a locked all → IsReadBy a locked
    → IfErr result (IsNotLeft a locked all) → IfErr result (IsHinderedIn a)
not_left_hinders_if a locked all (Ok left) by first read h = tt
not_left_hinders_if a locked all (Err why) by first read h = not_left_hinders a locked all why by first read h

-- ---- places in the old files

pub shown_so : (m : Marks) (origin : List ℕ) (row : ℕ) (o : Option ℕ) (from : ℕ) (place : Place) → o ≡ row_by (origin_of origin row) → o ≡ Some from → place ≡ place_of_name m from → IsShownAt m origin row place
shown_so m origin row o from place is some at = λ n e. at ∙ ap (place_of_name m) (same_Some from n (sym some ∙ is ∙ e))

pub unshown_so : (m : Marks) (origin : List ℕ) (row : ℕ) (o : Option ℕ) (place : Place) → o ≡ row_by (origin_of origin row) → o ≡ None → IsShownAt m origin row place
unshown_so m origin row o place is free = λ n e. absurd (none-some n (sym free ∙ is ∙ e))

pub err_is : {A : Type 0} {E : Type 0} (P : E → Type 0) (result : Result A E) (why : E) → result ≡ Err why → P why → IfErr result P
err_is {A} {E} P result why e h = subst (λ (r : Result A E). IfErr r P) (sym e) h

followed : (asked : Asked) (locked : Locked) (all : List Spelling) (left : Left) → IsAskedFor asked → IsLockedBy asked locked → AreFirstIn asked locked all → KeepsCallsIn asked locked → KeepsFlowIn asked locked → IsLeftOf locked all left
    → IsReadBy asked locked → HasTextsOf locked all left → IsFollowed asked.old.now asked.request.now left
followed asked locked all left a by first kept flow is whole texts = record {
  ends = is.1;
  step = λ found read. leaves asked.change.now (requested found asked.old.now asked.project.now asked.request.now (Ok asked.change.now) read a) by.changed kept flow
      (record { opened = held_opened left is.1; spellings = all; first = first; texts = texts_left found asked locked all left read whole texts; respelled = is.0 });
}

pub followed_so : (asked : Asked) (locked : Locked) (all : List Spelling) (result : Result Left StepFault) → IsAskedFor asked → IsLockedBy asked locked → AreFirstIn asked locked all → KeepsCallsIn asked locked
    → (KeepsBodiesIn asked locked → KeepsFlowIn asked locked) → IfOk result (λ left. KeepsBodiesIn asked locked) → IfOk result (λ left. IsLeftOf locked all left) → IsReadBy asked locked → IfOk result (HasTextsOf locked all) → IfOk result (λ left. IsFollowed asked.old.now asked.request.now left)
followed_so asked locked all (Ok left) a by first kept flow bodies is whole texts = followed asked locked all left a by first kept (flow bodies) is whole texts
followed_so asked locked all (Err why) a by first kept flow bodies is whole texts = tt

locked_so : (asked : Asked) (locked : Locked) (rows : Rows) (locks : Locks) → IsChanged (rows_in asked.old.now) (table_in asked.old.now) asked.change.now rows (entries locks.table.items)
    → locks.origin.items ≡ origins_by asked.change.now → locks.copy.items ≡ copies_by (origins_by asked.change.now) (length (rows_in asked.old.now)) → rows_under locked ≡ rows → locked.locks ≡ locks → IsLockedBy asked locked
locked_so asked locked rows locks h origin copies same kept = record {
  changed = subst (λ (r : Rows). IsChanged (rows_in asked.old.now) (table_in asked.old.now) asked.change.now r (locks_of locked)) (sym same)
      (subst (λ (l : Locks). IsChanged (rows_in asked.old.now) (table_in asked.old.now) asked.change.now rows (entries l.table.items)) (sym kept) h);
  origin = ap (λ (l : Locks). l.origin.items) kept ∙ origin;
  copies = ap (λ (l : Locks). l.copy.items) kept ∙ copies;
}

pub locked_result : (asked : Asked) (rows : Rows) (locks : Locks) (result : Result Locked StepFault) → IsChanged (rows_in asked.old.now) (table_in asked.old.now) asked.change.now rows (entries locks.table.items)
    → locks.origin.items ≡ origins_by asked.change.now → locks.copy.items ≡ copies_by (origins_by asked.change.now) (length (rows_in asked.old.now)) → IfOk result (λ locked. locked.program.index.value.rows ≡ rows)
    → IfOk result (λ locked. locked.locks ≡ locks) → IfOk result (IsLockedBy asked)
locked_result asked rows locks (Ok locked) h origin copies same kept = locked_so asked locked rows locks h origin copies same kept
locked_result asked rows locks (Err why) h origin copies same kept = tt

pub locked_shaped : (program : Program) (rows : Rows) (result : Result Locked StepFault) → AllByRecursion IsShaped (map (λ u. u.unit) program.units) → rows ≡ rows_of program
    → IfOk result (λ locked. locked.program.index.value.rows ≡ rows) → IfOk result (λ locked. IsProgram (rows_under locked))
locked_shaped program rows (Ok locked) shaped are same = record { units = map (λ u. u.unit) program.units; shaped = shaped; rows_are = same ∙ are }
locked_shaped program rows (Err why) shaped are same = tt

pub locked_begins : (program : Program) (rows : Rows) (result : Result Locked StepFault) → BeginsWithLang (rows_of program) → rows ≡ rows_of program
    → IfOk result (λ locked. locked.program.index.value.rows ≡ rows) → IfOk result (λ locked. BeginsWithLang (rows_under locked))
locked_begins program rows (Ok locked) begins are same = subst (λ (r : Rows). BeginsWithLang r) (sym (same ∙ are)) begins
locked_begins program rows (Err why) begins are same = tt

-- ---- what calls find

-- what calls read is right in a world whose supertypes and members are
read_methods : (world : World) (t : Table) (all : Methods) → all.under ≡ world.under → ((t : Table) → IsWholeWorld t world → AreMethods world.under.rows.now t all) → IsWholeWorld t world → AreMethods all.under.rows.now t all
read_methods world t all same read whole = subst (λ (u : Tabled). AreMethods u.rows.now t all) (sym same) (read t whole)

-- a changed program whose rows are as in all programs has the tables under its locks
pub locked_under : (locked : Locked) → IsProgram (rows_under locked) → AreWell (rows_under locked) → IsBoundByLocks locked → IsBoundBy (rows_under locked) locked.program.places.value locked.program.bound.value
locked_under locked program well is =
    let headed = program_headed (rows_under locked) program well in
    let placed : ArePlaced (rows_under locked) locked.program.places.value = record { local = program_local (rows_under locked) program; packages = well.packages; are = is.places } in
    let among : IsProgramIn (rows_under locked) locked.program.places.value = record { placed = placed; well = headed; sized = well.sized; bare = well.object.bare } in
    is.exact among (is.acyclic headed well.object.bare)

-- and so a whole world
pub locked_world : (locked : Locked) (view : View) → IsProgram (rows_under locked) → AreWell (rows_under locked) → IsBoundByLocks locked
    → IsViewOf (rows_under locked) locked.program.places.value locked.program.scopes.value locked.program.bound.value view → IsWholeWorld (entries view.sight.world.under.table.now) view.sight.world
locked_world locked view program well is of = whole_world locked.program view (locked_under locked program well is) of well.object.bare

-- what is told of the calls of two views is told of the old and the changed program
abbrev pub IsToldOf : Asked → Locked → Option Lost → Type 0
IsToldOf asked locked found = IsTold (rows_in asked.old.now) (table_in asked.old.now) (rows_under locked) (locks_of locked) (copies_by (origins_by asked.change.now) (length (rows_in asked.old.now))) found

told_between : (asked : Asked) (locked : Locked) (p q : Rows) (t l : List Referent) (copy : List ℕ) (found : Option Lost) → p ≡ rows_in asked.old.now → t ≡ asked.old.now.bound.value.table.items → q ≡ rows_under locked
    → entries l ≡ locks_of locked → copy ≡ copies_by (origins_by asked.change.now) (length (rows_in asked.old.now)) → IsTold p (entries t) q (entries l) copy found → IsToldOf asked locked found
told_between asked locked p q t l copy found rows table new locks copies kept =
    let copied : List ℕ = copies_by (origins_by asked.change.now) (length (rows_in asked.old.now)) in
    let first : IsTold p (entries t) q (entries l) copied found = subst (λ (c : List ℕ). IsTold p (entries t) q (entries l) c found) copies kept in
    let second : IsTold p (entries t) q (locks_of locked) copied found = subst (λ (s : Table). IsTold p (entries t) q s copied found) locks first in
    let third : IsTold p (entries t) (rows_under locked) (locks_of locked) copied found = subst (λ (r : Rows). IsTold p (entries t) r (locks_of locked) copied found) new second in
    let fourth : IsTold p (table_in asked.old.now) (rows_under locked) (locks_of locked) copied found =
    subst (λ (s : List Referent). IsTold p (entries s) (rows_under locked) (locks_of locked) copied found) table third in
    subst (λ (r : Rows). IsTold r (table_in asked.old.now) (rows_under locked) (locks_of locked) copied found) rows fourth

pub calls_told : (asked : Asked) (locked : Locked) (old new : View) (before after : Methods) (copy : List ℕ) (found : Option Lost)
    → IsViewOf (rows_in asked.old.now) asked.old.now.places.value asked.old.now.scopes.value asked.old.now.bound.value old
    → IsViewOf (rows_under locked) locked.program.places.value locked.program.scopes.value locked.program.bound.value new → before.under ≡ old.sight.world.under → after.under ≡ new.sight.world.under
    → ((t : Table) → IsWholeWorld t old.sight.world → AreMethods old.sight.world.under.rows.now t before) → ((t : Table) → IsWholeWorld t new.sight.world → AreMethods new.sight.world.under.rows.now t after)
    → copy ≡ locked.locks.copy.items → IsBoundIn asked.old.now → IsProgram (rows_under locked) → AreWell (rows_under locked) → IsBoundByLocks locked → IsLockedBy asked locked
    → ((t l : Table) → AreMethods before.under.rows.now t before → AreMethods after.under.rows.now l after → IsTold before.under.rows.now t after.under.rows.now l copy found) → IsToldOf asked locked found
calls_told asked locked old new before after copy found old_of new_of before_is after_is old_read new_read copies bound program well is by told =
    let t : Table = entries old.sight.world.under.table.now in
    let l : Table = entries new.sight.world.under.table.now in
    let first : IsTold before.under.rows.now t after.under.rows.now l copy found = told t l (read_methods old.sight.world t before before_is old_read (whole_view asked.old.now old bound old_of))
    (read_methods new.sight.world l after after_is new_read (locked_world locked new program well is new_of)) in
    told_between asked locked before.under.rows.now after.under.rows.now old.sight.world.under.table.now new.sight.world.under.table.now copy found (ap (λ (u : Tabled). u.rows.now) before_is ∙ old_of.rows_are) old_of.table_is
    (ap (λ (u : Tabled). u.rows.now) after_is ∙ new_of.rows_are) (ap entries new_of.table_is ∙ is.table) (copies ∙ by.copies) first

-- where no call is lost, calls find what they found
pub calls_kept : (asked : Asked) (locked : Locked) (found : Option Lost) → IsToldOf asked locked found → found ≡ None → KeepsCallsIn asked locked
calls_kept asked locked found told nothing = subst (λ (f : Option Lost). IsToldOf asked locked f) nothing told

-- where a call is lost, this is told
pub call_hinders : (a : Asked) (locked : Locked) (found : Option Lost) (lost : Lost) (told : StepFault) → IsLockedBy a locked → IsToldOf a locked found → found ≡ Some lost
    → told ≡ step.LostEdge kind.Dispatch (place_of_name a.project.now.marks lost.class) (place_of_name a.project.now.marks lost.method) true → IsHinderedIn a told
call_hinders a locked found lost told by is some e = told_hinders a (step.LostEdge kind.Dispatch (place_of_name a.project.now.marks lost.class) (place_of_name a.project.now.marks lost.method) true) told e
    (record { rows = rows_under locked; locks = locks_of locked; changed = by.changed; lost = lost; is = subst (λ (f : Option Lost). IsToldOf a locked f) some is; class_at = refl; method_at = refl }, refl)

-- ---- where control goes

-- those of a changed program under its locks
pub locked_tables : (locked : Locked) → IsProgram (rows_under locked) → AreWell (rows_under locked) → IsBoundByLocks locked → HasTables locked.program
locked_tables locked program well is = record { program = program; bare = well.object.bare; under = locked_under locked program well is }

-- where a body of the view is told to be too large, one of the program is
pub large_body : (w : Workspace) (view : View) (is_large : Bool) → HasTables w → length (rows_in w) + 3 < 2 ^ 32 → IsViewOf (rows_in w) w.places.value w.scopes.value w.bound.value view
    → ((m : Meaning) → flow.IsViewOf view m → IsTree (flow.rows_in view) → Decides is_large (HasTooLarge (flow.rows_in view) m)) → is_large ≡ true → HasLargeBody (rows_in w) (table_in w)
large_body w view is_large is few of told e = record {
  meaning = meaning_in w;
  is = meaning_is w is.under;
  large = subst (λ (r : Rows). HasTooLarge r (meaning_in w)) of.rows_are ((told (meaning_in w) (flow_view w view is few of) (subst (λ (r : Rows). IsTree r) (sym of.rows_are) (tree_of w is))).0 e);
}

abbrev IsCourseKept : Asked → Meaning → Meaning → Rows → Rows → List ℕ → List ℕ → Type 0
IsCourseKept asked m w p q origin copy = KeepsCourse asked.change.now.course p q m w origin copy × KeepsUsesOf asked.change.now.course p q m w origin copy × KeepsRaisedFlow asked.change.now.raised p q m w origin copy

-- what is said of the rows, origins and copies of two projects is said of those of the two programs
of_programs : (asked : Asked) (locked : Locked) (old new : Project) (P : Rows → Rows → List ℕ → List ℕ → Type 0) → IsLockedBy asked locked → old.marks.rows.now ≡ rows_in asked.old.now → new.marks.rows.now ≡ rows_under locked
    → P old.marks.rows.now new.marks.rows.now locked.locks.origin.items locked.locks.copy.items
    → P (rows_in asked.old.now) (rows_under locked) (origins_by asked.change.now) (copies_by (origins_by asked.change.now) (length (rows_in asked.old.now)))
of_programs asked locked old new P by old_rows new_rows h =
    subst (λ (copy : List ℕ). P (rows_in asked.old.now) (rows_under locked) (origins_by asked.change.now) copy) by.copies
    (subst (λ (origin : List ℕ). P (rows_in asked.old.now) (rows_under locked) origin locked.locks.copy.items) by.origin
    (subst (λ (p : Rows). P p (rows_under locked) locked.locks.origin.items locked.locks.copy.items) old_rows
    (subst (λ (q : Rows). P old.marks.rows.now q locked.locks.origin.items locked.locks.copy.items) new_rows h)))

-- both programs with their meanings
compared : (asked : Asked) (locked : Locked) → IsBoundIn asked.old.now → IsProgram (rows_under locked) → AreWell (rows_under locked) → IsBoundByLocks locked → IsLockedBy asked locked
    → Comparison (rows_in asked.old.now) (table_in asked.old.now) asked.change.now
compared asked locked bound program well is by = record {
  rows = rows_under locked;
  locks = locks_of locked;
  changed = by.changed;
  before = meaning_in asked.old.now;
  after = meaning_in locked.program;
  before_is = meaning_is asked.old.now (bound_tables asked.old.now bound).under;
  after_is = subst (λ (l : Table). IsMeaningOf (rows_under locked) l (meaning_in locked.program)) is.table (meaning_is locked.program (locked_tables locked program well is).under);
}

module _ (asked : Asked) (locked : Locked) (old new : Project) (bound : IsBoundIn asked.old.now) (program : IsProgram (rows_under locked)) (sound : IsSound asked locked) (is : IsBoundByLocks locked) (by : IsLockedBy asked locked)
    (old_rows : old.marks.rows.now ≡ rows_in asked.old.now) (new_rows : new.marks.rows.now ≡ rows_under locked)
    (old_of : IsViewOf (rows_in asked.old.now) asked.old.now.places.value asked.old.now.scopes.value asked.old.now.bound.value old.view)
    (new_of : IsViewOf (rows_under locked) locked.program.places.value locked.program.scopes.value locked.program.bound.value new.view) where
  old_seen : IsSeen old (meaning_in asked.old.now)
  old_seen = seen_project asked.old.now old (bound_tables asked.old.now bound) sound.few old_rows old_of

  new_seen : IsSeen new (meaning_in locked.program)
  new_seen = seen_project locked.program new (locked_tables locked program sound.well is) sound.few_new new_rows new_of

  -- where no edge of control and none from a definition to a use is lost between the two, control goes as it went, and uses have the values that they had
  pub flow_kept : (control uses : Option LostEdge)
      → ((m w : Meaning) → IsSeen old m → IsSeen new w → control ≡ None → KeepsCourse asked.change.now.course old.marks.rows.now new.marks.rows.now m w locked.locks.origin.items locked.locks.copy.items)
      → ((m w : Meaning) → IsSeen old m → IsSeen new w → control ≡ None → uses ≡ None → KeepsUsesOf asked.change.now.course old.marks.rows.now new.marks.rows.now m w locked.locks.origin.items locked.locks.copy.items)
      → ((m w : Meaning) → IsSeen old m → IsSeen new w → control ≡ None → uses ≡ None → KeepsRaisedFlow asked.change.now.raised old.marks.rows.now new.marks.rows.now m w locked.locks.origin.items locked.locks.copy.items)
      → control ≡ None → uses ≡ None → KeepsBodiesIn asked locked → KeepsFlowIn asked locked
  unfolding compared
  flow_kept control uses told uses_told raised_told nothing no_use alone =
      let m = meaning_in asked.old.now in
      let w = meaning_in locked.program in
      let kept = of_programs asked locked old new (IsCourseKept asked m w) by old_rows new_rows (told m w old_seen new_seen nothing, uses_told m w old_seen new_seen nothing no_use, raised_told m w old_seen new_seen nothing no_use) in
      let both = compared asked locked bound program sound.well is by in
      record {
        before = m;
        after = w;
        before_is = both.before_is;
        after_is = both.after_is;
        kept = kept.0;
        uses = kept.1;
        raised = kept.2;
        bodies = alone;
      }

  -- where an edge of control is told, not all keeps its course
  pub control_lost : (control : Option LostEdge) (edge : LostEdge)
      → ((m w : Meaning) → IsSeen old m → IsSeen new w → (LeavesStartIn asked.change.now.raised old.marks.rows.now m → ⊥) → (BeginsFirstIn asked.change.now.course old.marks.rows.now m → ⊥)
      → KeepsCourse asked.change.now.course old.marks.rows.now new.marks.rows.now m w locked.locks.origin.items locked.locks.copy.items
      → KeepsRaisedControl asked.change.now.raised old.marks.rows.now new.marks.rows.now m w locked.locks.origin.items locked.locks.copy.items → control ≡ None)
      → control ≡ Some edge → LosesControl (rows_in asked.old.now) (table_in asked.old.now) asked.change.now
  unfolding compared
  control_lost control edge only some =
      let m = meaning_in asked.old.now in
      let w = meaning_in locked.program in
      let P : Rows → Rows → List ℕ → List ℕ → Type 0 = λ p q origin copy. (LeavesStartIn asked.change.now.raised p m → ⊥) → (BeginsFirstIn asked.change.now.course p m → ⊥)
      → KeepsCourse asked.change.now.course p q m w origin copy → KeepsRaisedControl asked.change.now.raised p q m w origin copy → ⊥ in
      record { to = compared asked locked bound program sound.well is by; lost = of_programs asked locked old new P by old_rows new_rows (λ start first course raised. none-some edge (sym (only m w old_seen new_seen start first course raised) ∙ some)) }

  -- where there are too many points to compare, a body of one of the two has them
  pub compared_large : (fault : FlowFault) → ((m w : Meaning) → IsSeen old m → IsSeen new w → OnlyWhere (HasLarge old.marks.rows.now m ⊎ HasLarge new.marks.rows.now w) fault)
      → OnlyWhere (ComparesLarge (rows_in asked.old.now) (table_in asked.old.now) asked.change.now) fault
  unfolding compared
  compared_large faults.TooManyPoints large =
      let m = meaning_in asked.old.now in
      let w = meaning_in locked.program in
      record { to = compared asked locked bound program sound.well is by; large = of_programs asked locked old new (λ p q origin copy. HasLarge p m ⊎ HasLarge q w) by old_rows new_rows (large m w old_seen new_seen) }
  compared_large faults.OutOfMemory large = tt

  -- where an edge from a definition to a use is told, not all uses keep theirs
  pub uses_lost : (uses : Option LostEdge) (edge : LostEdge)
      → ((m w : Meaning) → IsSeen old m → IsSeen new w → HandsByOneIn asked.change.now.course new.marks.rows.now w locked.locks.origin.items
      → KeepsUsesOf asked.change.now.course old.marks.rows.now new.marks.rows.now m w locked.locks.origin.items locked.locks.copy.items
      → KeepsRaisedFlow asked.change.now.raised old.marks.rows.now new.marks.rows.now m w locked.locks.origin.items locked.locks.copy.items → uses ≡ None)
      → uses ≡ Some edge → LosesUses (rows_in asked.old.now) (table_in asked.old.now) asked.change.now
  unfolding compared
  uses_lost uses edge only some =
      let m = meaning_in asked.old.now in
      let w = meaning_in locked.program in
      let P : Rows → Rows → List ℕ → List ℕ → Type 0 = λ p q origin copy. HandsByOneIn asked.change.now.course q w origin → KeepsUsesOf asked.change.now.course p q m w origin copy
      → KeepsRaisedFlow asked.change.now.raised p q m w origin copy → ⊥ in
      record { to = compared asked locked bound program sound.well is by; lost = of_programs asked locked old new P by old_rows new_rows (λ hands course raised. none-some edge (sym (only m w old_seen new_seen hands course raised) ∙ some)) }

-- where each body that is left alone is found to mean what it meant, it keeps its edges
pub bodies_kept : (asked : Asked) (locked : Locked) (old new : View) (before after : Meant) (copy : List ℕ) (told : Result Bool OutOfMemory) → IsReady asked locked
    → IsViewOf (rows_in asked.old.now) asked.old.now.places.value asked.old.now.scopes.value asked.old.now.bound.value old
    → IsViewOf (rows_under locked) locked.program.places.value locked.program.scopes.value locked.program.bound.value new
    → before.rows.now ≡ flow.rows_in old → after.rows.now ≡ flow.rows_in new → ((m : Meaning) → flow.IsViewOf old m → IsMeant before m) → ((m : Meaning) → flow.IsViewOf new m → IsMeant after m)
    → copy ≡ locked.locks.copy.items
    → ((m w : Meaning) (change : Change) → IsMeant before m → IsMeant after w → copy ≡ copies_by (origins_by change) (length before.rows.now) → IsTree before.rows.now → IsTree after.rows.now
    → IsChanged before.rows.now m.targets change after.rows.now w.targets → IfOk told (λ is. is ≡ true → KeepsBodies before.rows.now after.rows.now m w change))
    → IfOk told (λ is. is ≡ true → KeepsBodiesIn asked locked)
bodies_kept asked locked old new before after copy told ready old_of new_of old_rows new_rows old_meant new_meant copies keeps =
    let first = bound_tables asked.old.now ready.old in
    let second = locked_tables locked ready.new ready.sound.well ready.bound in
    let m = meaning_in asked.old.now in
    let w = meaning_in locked.program in
    let change = asked.change.now in
    let p : before.rows.now ≡ rows_in asked.old.now = old_rows ∙ old_of.rows_are in
    let q : after.rows.now ≡ rows_under locked = new_rows ∙ new_of.rows_are in
    let changed : IsChanged (rows_in asked.old.now) (table_in asked.old.now) change (rows_under locked) (table_in locked.program) =
    subst (λ (l : Table). IsChanged (rows_in asked.old.now) (table_in asked.old.now) change (rows_under locked) l) (sym ready.bound.table) ready.by.changed in
    let whole : IfOk told (λ is. is ≡ true → KeepsBodies before.rows.now after.rows.now m w change) =
    keeps m w change (old_meant m (flow_view asked.old.now old first ready.sound.few old_of)) (new_meant w (flow_view locked.program new second ready.sound.few_new new_of))
    (copies ∙ ready.by.copies ∙ ap (λ (r : Rows). copies_by (origins_by change) (length r)) (sym p)) (subst (λ (r : Rows). IsTree r) (sym p) (tree_of asked.old.now first)) (subst (λ (r : Rows). IsTree r) (sym q) (tree_of locked.program second))
    (subst (λ (r : Rows). IsChanged r (table_in asked.old.now) change after.rows.now (table_in locked.program)) (sym p)
    (subst (λ (r : Rows). IsChanged (rows_in asked.old.now) (table_in asked.old.now) change r (table_in locked.program)) (sym q) changed)) in
    subst (λ (r : Rows). IfOk told (λ is. is ≡ true → KeepsBodies r (rows_under locked) m w change)) p (subst (λ (r : Rows). IfOk told (λ is. is ≡ true → KeepsBodies before.rows.now r m w change)) q whole)

-- ---- types

-- a view of the tables of a bound program has the types and values that the definitions have
typed_view : (w : Workspace) (view : View) → IsViewOf (rows_in w) w.places.value w.scopes.value w.bound.value view → IsTypedAs view (record { types = (meaning_in w).types; values = (meaning_in w).values })
typed_view w view of = record {
  types = λ n. ap (λ (all : List (Option RowType)). types_in all n) of.types_are;
  values = λ n. ap (λ (found : Constants). values_of found n) of.constants_are;
}

-- where a row is told to be retyped, one is
pub retyped_so : (a : Asked) (locked : Locked) (old new : Project) (row : ℕ) (found : Option ℕ) (place : Place) (told : StepFault) → IsReady a locked → old.marks.rows.now ≡ rows_in a.old.now → IsProjectIn locked.program new
    → IsViewOf (rows_in a.old.now) a.old.now.places.value a.old.now.scopes.value a.old.now.bound.value old.view
    → ((before after : Typed) → AreCompared old new locked.locks a.change.now before after → IsRetypedIf old.marks.rows.now a.change.now before after new.marks found) → found ≡ Some row
    → told ≡ step.Broken TypeChange place → IsRetypedIn a told
unfolding compared
retyped_so a locked old new row found place told ready rows of old_of tells some e =
    let m = meaning_in a.old.now in
    let w = meaning_in locked.program in
    let before : Typed = record { types = m.types; values = m.values } in
    let after : Typed = record { types = w.types; values = w.values } in
    let count = ready.by.changed.count in
    let made = of.made ready.read.indexed in
    let first : IsRetypedIf old.marks.rows.now a.change.now before after new.marks (Some row) = subst (λ (o : Option ℕ). IsRetypedIf old.marks.rows.now a.change.now before after new.marks o) some (tells before after (record {
      ordered = ordered_so locked.program.program locked.program.index.value new.marks ready.read.indexed made;
      few = let many = ap length ready.by.origin in let few_new = ready.sound.few_new in omega (arith, count, many, few_new);
      origins = ready.by.origin;
      copies = ready.by.copies ∙ ap (λ (r : Rows). copies_by (origins_by a.change.now) (length r)) (sym rows);
      before_is = typed_view a.old.now old.view old_of;
      after_is = typed_view locked.program new.view of.view;
    })) in
    subst (λ (f : StepFault). IsRetypedIn a f) (sym e) (record {
      to = compared a locked ready.old ready.new ready.sound.well ready.bound ready.by;
      row = row;
      is = subst (λ (r : Rows). IsRetyped r a.change.now before after row) rows first.retyped;
    })

-- ---- the changed program under its locks

pub ready_so : (a : Asked) (locked : Locked) → IsAskedFor a → IsBoundIn a.old.now → IsProgram (rows_under locked) → BeginsWithLang (rows_under locked) → IsReadBy a locked → IsSound a locked → IsLockedBy a locked → IsBoundByLocks locked
    → IsReady a locked
ready_so a locked asked old new begins read sound by bound = record { asked = asked; old = old; new = new; begins = begins; read = read; sound = sound; by = by; bound = bound }

pub bound_so : (locked : Locked) (rows : Rows) (these places : Places) (bound : Bound) → rows ≡ rows_under locked → these ≡ locked.program.places.value → places ≡ locked.program.places.value → locked.program.bound.value ≡ bound
    → bound.table.items ≡ locked.locks.table.items → ArePlaces rows locked.program.places.value → (ArePlaced rows these → AreScopes rows locked.program.scopes.value) → (ArePlaced rows these → AreTops rows these locked.program.scopes.value)
    → (ArePlaced rows places → AreImports rows (entries bound.table.items) bound.imports.value) → IsExact rows places bound → (IsWellHeaded rows → ObjectIsBare rows → HasNoCycle rows (entries bound.table.items)) → IsBoundByLocks locked
bound_so locked rows these places bound rows_are these_are places_are bound_is table placed scoped topped brought exact acyclic = record {
  table = ap (λ (b : Bound). entries b.table.items) bound_is ∙ ap entries table;
  places = subst (λ (r : Rows). ArePlaces r locked.program.places.value) rows_are placed;
  scopes = subst (λ (r : Rows). ArePlaced r locked.program.places.value → AreScopes r locked.program.scopes.value) rows_are
      (subst (λ (x : Places). ArePlaced rows x → AreScopes rows locked.program.scopes.value) these_are scoped);
  tops = subst (λ (r : Rows). ArePlaced r locked.program.places.value → AreTops r locked.program.places.value locked.program.scopes.value) rows_are
      (subst (λ (x : Places). ArePlaced rows x → AreTops rows x locked.program.scopes.value) these_are topped);
  imports = subst (λ (b : Bound). ArePlaced (rows_under locked) locked.program.places.value → AreImports (rows_under locked) (entries b.table.items) b.imports.value) (sym bound_is)
      (subst (λ (x : Places). ArePlaced (rows_under locked) x → AreImports (rows_under locked) (entries bound.table.items) bound.imports.value) places_are
      (subst (λ (r : Rows). ArePlaced r places → AreImports r (entries bound.table.items) bound.imports.value) rows_are brought));
  exact = subst (λ (b : Bound). IsExact (rows_under locked) locked.program.places.value b) (sym bound_is)
      (subst (λ (x : Places). IsExact (rows_under locked) x bound) places_are (subst (λ (r : Rows). IsExact r places bound) rows_are exact));
  acyclic = subst (λ (b : Bound). IsWellHeaded (rows_under locked) → ObjectIsBare (rows_under locked) → HasNoCycle (rows_under locked) (entries b.table.items)) (sym bound_is)
      (subst (λ (r : Rows). IsWellHeaded r → ObjectIsBare r → HasNoCycle r (entries bound.table.items)) rows_are acyclic);
}

-- ---- steps one after another

steps_then : {first now next : Opened} {before : List Request} {request : Request} → AreSteps first before now → IsStep now request next → AreSteps first (before ++ request ∷ []) next
steps_then none step = more step none
steps_then (more one rest) step = more one (steps_then rest step)

-- the steps of the requests before those that are left lead from the first files to these, and so many they are; a number past 2 ^ 32 cannot be told
pub record AreStepsTo (first : Opened) (requests : List Request) (now : Left) (rest : List Request) (number : ℕ) : Type 0 where
  pub held : IsHeld now
  pub before : List Request
  pub split : requests ≡ before ++ rest
  pub steps : AreSteps first before (opened_by now)
  pub counted : length before < 2 ^ 32 → number ≡ length before

pub at_first : (first : Left) (requests : List Request) → IsHeld first → AreStepsTo (opened_by first) requests first requests 0
at_first first requests is = record { held = is; before = []; split = refl; steps = none; counted = λ few. refl }

pub at_next : (first : Opened) (requests : List Request) (now next : Left) (request : Request) (rest after : List Request) (number behind : ℕ) → AreStepsTo first requests now rest number → rest ≡ request ∷ after
    → behind ≡ min (number + 1) (2 ^ 32 - 1) → IsStep (opened_by now) request (opened_by next) → IsHeld next → AreStepsTo first requests next after behind
at_next first requests now next request rest after number behind is split adds step held = record {
  held = held;
  before = is.before ++ request ∷ [];
  split = is.split ∙ ap (λ (r : List Request). is.before ++ r) split ∙ sym (append_assoc is.before (request ∷ []) after);
  steps = steps_then is.steps step;
  counted = λ few. let long = length_push is.before request in let so_far : number ≡ length is.before = is.counted (omega (arith, few, long)) in omega (arith, few, long, so_far, adds);
}

pub at_last : (first : Opened) (requests : List Request) (now : Left) (rest : List Request) (number : ℕ) → AreStepsTo first requests now rest number → length rest ≡ 0 → AreSteps first requests (opened_by now)
at_last first requests now [] number is ends = subst (λ (all : List Request). AreSteps first all (opened_by now)) (sym (is.split ∙ append-nil is.before)) is.steps
at_last first requests now (request ∷ rest) number is ends = absurd (omega (arith, ends))

-- the number of the next request, which is told
next_number : (before after : List Request) (why : EngineFault) (number behind told : ℕ) → (length before < 2 ^ 32 → number ≡ length before) → behind ≡ min (number + 1) (2 ^ 32 - 1) → IsToldNumber behind why told
    → IsNumber before after why told
next_number before after why number behind told counted adds (inl same) = IsNumber.counted (λ few. let so_far : number ≡ length before = counted (omega (arith, few)) in omega (arith, few, so_far, adds, same))
next_number [] after why number behind told counted adds (inr h) = IsNumber.of_files refl h.1 h.2
next_number (request ∷ before) after why number behind told counted adds (inr h) =
    IsNumber.counted (λ few. let so_far : number ≡ length (request ∷ before) = counted (omega (arith, few)) in let first = h.0 in absurd (omega (arith, few, so_far, adds, first)))

-- where the next request is refused
pub refused_at : (first : Opened) (requests : List Request) (now : Left) (request : Request) (rest after : List Request) (number behind told : ℕ) (why : EngineFault) → AreStepsTo first requests now rest number
    → rest ≡ request ∷ after → behind ≡ min (number + 1) (2 ^ 32 - 1) → IsCausedBy now.program request why → IsToldNumber behind why told → IsRefusedFrom first requests told why
refused_at first requests now request rest after number behind told why is split adds caused numbered = record {
  before = is.before;
  request = request;
  after = after;
  split = is.split ∙ ap (λ (r : List Request). is.before ++ r) split;
  numbered = next_number is.before after why number behind told is.counted adds numbered;
  now = opened_by now;
  steps = is.steps;
  cause = caused now.files is.held.read;
}

-- the number of a request of a list is 0 where the fault is one of the files found alone
pub zero_of_files : (number behind told : ℕ) (why : EngineFault) → behind ≡ min (number + 1) (2 ^ 32 - 1) → IsToldNumber behind why told → told ≡ 0 → IsOfFiles why
zero_of_files number behind told why adds (inl same) zero = absurd (omega (arith, adds, same, zero))
zero_of_files number behind told why adds (inr h) zero = h.2

-- the number of a request alone is 0
pub alone_zero : (why : EngineFault) (told : ℕ) → IsToldNumber 0 why told → told ≡ 0
alone_zero why told (inl same) = same
alone_zero why told (inr h) = h.1

pub one_refused : (first : Left) (request : Request) (told : ℕ) (why : EngineFault) → IsHeld first → IsCausedBy first.program request why → IsToldNumber 0 why told → IsRefusedFrom (opened_by first) (request ∷ []) told why
one_refused first request told why is caused numbered = record {
  before = [];
  request = request;
  after = [];
  split = refl;
  numbered = IsNumber.alone refl refl (alone_zero why told numbered);
  now = opened_by first;
  steps = none;
  cause = caused first.files is.read;
}

pub refused_so : (found : FileMap) (first : Left) (requests : List Request) (number : ℕ) (why : EngineFault) → first.files ≡ found → IsHeld first → IsRefusedFrom (opened_by first) requests number why
    → RefusedAs found requests number why
refused_so found first requests number why same is from = RefusedAs.refused same (held_opened first is) from

pub front_so : (found : FileMap) (requests : List Request) (why : FrontFault) (number : ℕ) (told : EngineFault) → CheckedAs found (Err why) → number ≡ 0 → IsToldAs (fault.Front why) told → RefusedAs found requests number told
front_so found requests why number _ checked zero IsToldAs.told = subst (λ (n : ℕ). RefusedAs found requests n (fault.Front why)) (sym zero) (RefusedAs.not_compiling checked)
front_so found requests why number _ checked zero IsToldAs.no_room = RefusedAs.memory

pub no_memory_so : (found : FileMap) (requests : List Request) (number : ℕ) (why : EngineFault) → why ≡ fault.Step step.OutOfMemory → RefusedAs found requests number why
no_memory_so found requests number why e = subst (λ (w : EngineFault). RefusedAs found requests number w) (sym e) RefusedAs.memory

-- ---- faults of the files found

pub front_of_files : (why : FrontFault) (told : EngineFault) → IsToldAs (fault.Front why) told → IsOfFiles told
front_of_files why _ IsToldAs.told = tt
front_of_files why _ IsToldAs.no_room = tt

pub memory_of_files : (told : EngineFault) → told ≡ fault.Step step.OutOfMemory → IsOfFiles told
memory_of_files told e = subst (λ (w : EngineFault). IsOfFiles w) (sym e) tt

flow_of_files : (w : Workspace) (why : StepFault) → IsLargeIn w why → IsOfFiles (fault.Step why)
flow_of_files w (step.TooLarge size.Flow) is = tt
flow_of_files w step.OutOfMemory is = tt
flow_of_files w _ is = absurd is

pub number_told_if : (request : ℕ) (result : Result (Option Left) Refused) → IfErr result (λ refused. refused.request ≡ request) → IfErr result (λ refused. IsToldNumber request refused.fault refused.request)
number_told_if request (Ok left) same = tt
number_told_if request (Err refused) same = inl same

-- a program with too many points of flow is told by 0 before the first request of a list
pub flow_number : (w : Workspace) (why : StepFault) (told : EngineFault) (request number : ℕ) → IsLargeIn w why → IsToldAs (fault.Step why) told → (number ≡ request) ⊎ ((request ≡ 1) × (number ≡ 0)) → IsToldNumber request told number
flow_number w why told request number is shown (inl same) = inl same
flow_number w why _ request number is IsToldAs.told (inr h) = inr (h.0, h.1, flow_of_files w why is)
flow_number w why _ request number is IsToldAs.no_room (inr h) = inr (h.0, h.1, tt)

pub one_step : (first last : Opened) (request : Request) → IsStep first request last → AreSteps first (request ∷ []) last
one_step first last request step = more step none

pub planned_so : (found : FileMap) (first last : Left) (requests : List Request) → first.files ≡ found → IsHeld first → IsHeld last
    → AreSteps (opened_by first) requests (opened_by last) → PlannedAs found requests (Ok last.files)
planned_so found first last requests same is will steps = (
  subst (λ (f : FileMap). IsAccepted f) same (accepted_so (opened_by first) (held_opened first is)),
  accepted_so (opened_by last) (held_opened last will),
  record { first = opened_by first; last = opened_by last; begins = same; ends = refl; opened = held_opened first is; steps = steps },
)
