-- Why a request leaves nothing of files that compile: the cause of each fault.
use Rattle.std.specs.Prelude.{◌≡◌, ◌⊎◌, ℕ, suc, ◌<◌, ◌^◌, true, List, [], ◌∷◌, ◌++◌, length, Some, Ok, Err, ⊤}
use Rattle.jr_base.specs.Files.{FileMap}
use Rattle.jr_base.specs.declared.limits.Size.{Size}
use Rattle.jr_base.specs.declared.limits.Size.TheVariants as size
use Rattle.jr_base.specs.declared.request.Request.{Request}
use Rattle.jr_base.specs.declared.token.Place.{Place}
use Rattle.jr_tree.specs.Rows.{Rows}
use Rattle.jr_defs.specs.Referents.{Table}
use Rattle.jr_defs.specs.declared.program.UnitAt.{UnitAt}
use Rattle.jr_shapes.specs.declared.spelling.Spelling.{Spelling}
use Rattle.jr_spelling_rules.specs.Spelling.{HasNoSpelling}
use Rattle.jr_spell.specs.Spelling.{first_written}
use Rattle.jr_index.specs.NodeRows.{unit_rows}
use Rattle.jr_edges.specs.Dispatched.{IsLost}
use Rattle.jr_edges.specs.declared.dispatched.Lost.{Lost}
use Rattle.jr_locks.specs.Changed.{IsChanged, copies_by, origins_by}
use Rattle.jr_locks.specs.Origins.{origin_of, row_by}
use Rattle.jr_marks.specs.Places.{place_of_name}
use Rattle.jr_marks.specs.declared.marks.Marks.{Marks}
use Rattle.jr_change.specs.declared.change.Change.{Change}
use Rattle.jr_change.specs.declared.reason.ChangeFault.{ChangeFault}
use Rattle.jr_change.specs.declared.reason.ChangeFault.TheVariants as change
use Rattle.jr_flow_defs.specs.Meaning.{Meaning}
use Rattle.jr_flow.specs.Sizes.{HasTooLarge}
use Rattle.jr_front.specs.Bound.{rows_in, table_in}
use Rattle.jr_front.specs.declared.workspace.Workspace.{Workspace}
use Rattle.jr_engine.specs.Barring.{HasDeepText, Bars}
use Rattle.jr_engine.specs.Comparing.{BreaksTypes, ComparesLarge, LosesControl, LosesUses}
use Rattle.jr_engine.specs.Steps.{Opened, IsMeaningOf, IsRequested, AreFirst, AreSteps, IsRead, is_constant, opened, types}
use Rattle.jr_engine.specs.Texts.{AreTexts, changed_files}
use Rattle.jr_engine.specs.declared.asked.Asked.{Asked}
use Rattle.jr_engine.specs.declared.fault.EngineFault.{EngineFault}
use Rattle.jr_engine.specs.declared.fault.EngineFault.TheVariants as fault
use Rattle.jr_engine.specs.declared.fault.LostKind.TheVariants as kind
use Rattle.jr_engine.specs.declared.fault.Refused.{Refused}
use Rattle.jr_engine.specs.declared.fault.StepFault.{StepFault}
use Rattle.jr_engine.specs.declared.fault.StepFault.TheVariants as step

-- why there is no change, as a fault of a step
abbrev pub fault_of : ChangeFault → StepFault
fault_of (change.Bad reason) = step.BadRequest reason
fault_of (change.StillUsed place) = step.StillUsed place
fault_of change.TooManyPoints = step.TooLarge size.Flow
fault_of change.OutOfMemory = step.OutOfMemory

-- the place is that of the name of the old row from which the row comes, if it comes from one
abbrev pub IsShownAt : Marks → List ℕ → ℕ → Place → Type 0
IsShownAt m origin row place = (n : ℕ) → row_by (origin_of origin row) ≡ Some n → place ≡ place_of_name m n

-- a reference of the changed program, whose place is told, can be written in no way so that it refers to its lock
pub record LacksSpelling (p : Rows) (t : Table) (m : Marks) (change : Change) (place : Place) : Type 0 where
  pub rows : Rows
  pub locks : Table
  pub changed : IsChanged p t change rows locks
  pub row : ℕ
  pub at : IsShownAt m (origins_by change) row place
  pub none : HasNoSpelling rows locks (types rows locks) (is_constant p t change rows locks) (first_written (unit_rows rows (length rows))) row

-- an object of the first class that has the place, in a call of a method that has the other one, found a method whose copy its copy does not find (JLS 15.12.4.4); no such class stands before it, and in it no such method
pub record LosesCall (p : Rows) (t : Table) (m : Marks) (change : Change) (class method : Place) : Type 0 where
  pub rows : Rows
  pub locks : Table
  pub changed : IsChanged p t change rows locks
  pub lost : Lost
  pub is : IsLost rows locks (copies_by (origins_by change) (length p)) p t lost
  pub class_at : class ≡ place_of_name m lost.class
  pub method_at : method ≡ place_of_name m lost.method

-- ---- the files that were to be left

-- The texts that a change was to leave of a program with these units: those of a changed program under its locks, written with the first spellings that fit, as where files are left (`IsWritten`). Two may have one path.
pub record AreToBeLeft (units : List UnitAt) (p : Rows) (t : Table) (change : Change) (texts : List (List ℕ × List ℕ)) : Type 0 where
  pub rows : Rows
  pub locks : Table
  pub changed : IsChanged p t change rows locks
  pub spellings : List Spelling
  pub first : AreFirst p t change rows locks spellings
  pub texts_are : AreTexts units change rows locks spellings texts

-- the files that were to be left may not be, for what is told
pub record IsBarred (units : List UnitAt) (p : Rows) (t : Table) (change : Change) (why : StepFault) : Type 0 where
  pub texts : List (List ℕ × List ℕ)
  pub are : AreToBeLeft units p t change texts
  pub bars : Bars texts why

-- ---- points of flow

-- a body has more points of flow than there may be, by what names refer to, the types of expressions and the values of constants
pub record HasLargeBody (p : Rows) (t : Table) : Type 0 where
  pub meaning : Meaning
  pub is : IsMeaningOf p t meaning
  pub large : HasTooLarge p meaning

-- so it is in a changed program under its locks
pub record LeavesLargeBody (p : Rows) (t : Table) (change : Change) : Type 0 where
  pub rows : Rows
  pub locks : Table
  pub changed : IsChanged p t change rows locks
  pub large : HasLargeBody rows locks

-- A size passes its limit: of the files that were to be left, the levels of a text of the change, before its references are spelled, or the points of flow of a body of the changed program, or of
-- one that is compared (`ComparesLarge`).
pub data IsTooLarge (units : List UnitAt) (p : Rows) (t : Table) (change : Change) : Size → Type 0 where
  by_files : {what : Size} → IsBarred units p t change (step.TooLarge what) → IsTooLarge units p t change what
  by_change : HasDeepText (changed_files units change.units.items) → IsTooLarge units p t change size.Nesting
  by_flow : LeavesLargeBody p t change → IsTooLarge units p t change size.Flow
  by_compared_flow : ComparesLarge p t change → IsTooLarge units p t change size.Flow

-- ---- the causes

-- Why what a change is to leave of a program with these units cannot be left. Where there is a change, the request is no bad one; which edge of control or from a definition to a use is told among those that are lost is not said, and of what differs, and
-- of want of memory nothing is said.
abbrev pub IsHindered : List UnitAt → Rows → Table → Marks → Change → StepFault → Type 0
IsHindered units p t m change (step.BadRequest reason) = ⊥
IsHindered units p t m change (step.StillUsed place) = ⊥
IsHindered units p t m change (step.NoSpelling occ place lock) = LacksSpelling p t m change place
IsHindered units p t m change (step.LostEdge kind.Dispatch class method is_old) = LosesCall p t m change class method × (is_old ≡ true)
IsHindered units p t m change (step.LostEdge kind.Control first second is_old) = LosesControl p t change
IsHindered units p t m change (step.LostEdge kind.DefUse first second is_old) = LosesUses p t change
IsHindered units p t m change (step.Broken rule place) = IsBarred units p t change (step.Broken rule place) ⊎ BreaksTypes p t change rule
IsHindered units p t m change (step.TooLarge what) = IsTooLarge units p t change what
IsHindered units p t m change other = ⊤

-- The cause of a fault: the request asks for no change, and this is why; the change for which it asks is hindered; or a body of the program has too many points of flow. Of want of memory nothing is said.
pub data HasCause (old : Opened) (request : Request) : EngineFault → Type 0 where
  no_change : {why : ChangeFault} → IsRequested old request (Err why) → HasCause old request (fault.Step (fault_of why))
  hindered : {change : Change} {why : StepFault} (asked : IsRequested old request (Ok change)) → IsHindered asked.project.program.units old.rows old.table asked.old.marks change why → HasCause old request (fault.Step why)
  large : HasLargeBody old.rows old.table → HasCause old request (fault.Step (step.TooLarge size.Flow))
  memory : HasCause old request (fault.Step step.OutOfMemory)

-- ---- the number of a request

-- the fault may be one of the files found and of no request: they do not compile, they have too many points of flow, or memory is wanting
abbrev pub IsOfFiles : EngineFault → Type 0
IsOfFiles (fault.Front why) = ⊤
IsOfFiles (fault.Step (step.TooLarge size.Flow)) = ⊤
IsOfFiles (fault.Step step.OutOfMemory) = ⊤
IsOfFiles other = ⊥

-- The number that is told of the request between these: in a list it is counted from 1; a number past 2 ^ 32 cannot be told. 0 is that of a request alone, and, before the first, of a fault of the files found.
pub data IsNumber (before after : List Request) (why : EngineFault) (number : ℕ) : Type 0 where
  counted : (suc (length before) < 2 ^ 32 → number ≡ suc (length before)) → IsNumber before after why number
  alone : before ≡ [] → after ≡ [] → number ≡ 0 → IsNumber before after why number
  of_files : before ≡ [] → number ≡ 0 → IsOfFiles why → IsNumber before after why number

-- the first requests lead from the first files to others, and of these the next request, whose number is told, leaves nothing, for a cause that holds there
pub record IsRefusedFrom (first : Opened) (requests : List Request) (number : ℕ) (why : EngineFault) : Type 0 where
  pub before : List Request
  pub request : Request
  pub after : List Request
  pub split : requests ≡ before ++ request ∷ after
  pub numbered : IsNumber before after why number
  pub now : Opened
  pub steps : AreSteps first before now
  pub cause : HasCause now request why

-- ---- what the code holds of it

-- whatever the files of the program, the fault has its cause
abbrev pub IsCausedBy : Workspace → Request → EngineFault → Type 0
IsCausedBy old request why = (found : FileMap) → IsRead found old → HasCause (opened found old) request why

-- the change that is asked for is hindered
abbrev pub IsHinderedIn : Asked → StepFault → Type 0
IsHinderedIn a why = IsHindered a.old.now.program.units (rows_in a.old.now) (table_in a.old.now) a.project.now.marks a.change.now why

-- the reference at the row of a changed program cannot be written
abbrev pub IsUnspelled : Marks → List ℕ → ℕ → StepFault → Type 0
IsUnspelled m origin row (step.NoSpelling occ place lock) = IsShownAt m origin row place
IsUnspelled m origin row other = ⊥

-- the fault that is told is this one, or want of memory
pub data IsToldAs (why : EngineFault) : EngineFault → Type 0 where
  told : IsToldAs why why
  no_room : IsToldAs why (fault.Step step.OutOfMemory)

-- a body of the program has too many points of flow, or memory is wanting
abbrev pub IsLargeIn : Workspace → StepFault → Type 0
IsLargeIn w (step.TooLarge size.Flow) = HasLargeBody (rows_in w) (table_in w)
IsLargeIn w step.OutOfMemory = ⊤
IsLargeIn w other = ⊥

-- 0 is told with a fault alone that may be one of the files found
abbrev pub IsZeroOfFiles : Refused → Type 0
IsZeroOfFiles refused = refused.request ≡ 0 → IsOfFiles refused.fault

-- the number that is told is that of the request, or 0 where it is the first one of a list and the fault is one of the files found
abbrev pub IsToldNumber : ℕ → EngineFault → ℕ → Type 0
IsToldNumber request why number = (number ≡ request) ⊎ ((request ≡ 1) × (number ≡ 0) × IsOfFiles why)
