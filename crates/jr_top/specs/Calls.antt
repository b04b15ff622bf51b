-- What a call of the program comes to: an equation for each command.
use Rattle.std.specs.Prelude.{◌≡◌, ◌⊎◌, ℕ, List, Option, Some, None, Err, ⊤}
use Rattle.jr_base.specs.declared.request.Request.{Request}
use Rattle.jr_base.specs.declared.request.Request.TheVariants.{Rename}
use Rattle.jr_request.specs.Input.{IsInputAnswer}
use Rattle.jr_request.specs.declared.input_fault.BatchFault.{BatchFault}
use Rattle.jr_commit.specs.Restoring.{Restored}
use Rattle.jr_request.specs.Words.{command_of}
use Rattle.jr_request.specs.declared.command.Command.{Command}
use Rattle.jr_request.specs.declared.command.Command.TheVariants.{One, Batch, Demo, Undo}
use Rattle.jr_store.specs.Image.{Image}
use Rattle.jr_thin.specs.Renaming.{Serves, IsRenaming}
use Rattle.jr_thin.specs.declared.answers.Renaming.{Renaming}
use Rattle.jr_top.specs.Answers.{Answers, OutcomeOf, reported, IsFailure, IsDemonstrated, IsServedAnswer}
use Rattle.jr_top.specs.Batches.{Hears, status_of, IsBatchFailure}
use Rattle.jr_top.specs.Checking.{Checks, IsCheckedSo}
use Rattle.jr_top.specs.Crash.{Survives}
use Rattle.jr_top.specs.Engine.{AsksOne, AsksAll, AnswersPlanned}
use Rattle.jr_top.specs.Exact.{IsAnswered}
use Rattle.jr_top.specs.Line.{line_of}
use Rattle.jr_top.specs.Plain.{AnswersPlain}
use Rattle.jr_top.specs.Recovering.{AsksRecovery}
use Rattle.jr_top.specs.Renaming.{Holds}
use Rattle.jr_top.specs.Undoing.{AnswersUndo, IsUndoAnswer}
use Rattle.jr_top.specs.declared.status.Status.{Status}
use Rattle.jr_top.specs.declared.status.Status.TheVariants.{BadJournal, BadWords}

-- ---- what is seen of a call

-- What a store shows: its files before and after a call, where it tells them, the images that a crash may leave before and after it, and how many faults it has counted.
pub record StoreShown : Type 1 where
  pub told : Option Image
  pub left : Option Image
  pub kept : Image → Type 0
  pub outcomes : Image → Type 0
  pub before : ℕ
  pub after : ℕ

-- what an input shows: the bytes that are left of it before a call, where it tells them, and how many faults it has counted
pub record InputShown : Type 0 where
  pub heard : Option (List ℕ)
  pub before : ℕ
  pub after : ℕ

-- what an output shows: the bytes that it has got before and after a call, where it tells them, and how many faults it has counted
pub record OutputShown : Type 0 where
  pub old : Option (List ℕ)
  pub new : Option (List ℕ)
  pub before : ℕ
  pub after : ℕ

-- the words of a call, and what store, input and output show of it
pub record Call : Type 1 where
  pub words : List (List ℕ)
  pub store : StoreShown
  pub input : InputShown
  pub output : OutputShown

-- ---- when each answer comes, and what it leaves

-- Of the answer this is so, a crash leaves what it says, and the output got its line. After a fault of the output it is so of the answer whose line was being written.
abbrev pub IsTold : Call → (Status → List ℕ) → (Status → Type 0) → Status → Type 0
IsTold c line IsSo = OutcomeOf line (λ status. IsSo status × Survives c.words c.store.told c.store.kept c.store.outcomes status) c.output.old c.output.new c.output.before c.output.after

-- the line shows the file that the words name
abbrev pub IsToldAs : Call → (Status → Type 0) → Status → Type 0
IsToldAs c = IsTold c (reported c.words)

-- it shows these paths
abbrev pub IsToldOf : Call → (List (List ℕ) → Status → Type 0) → Status → Type 0
IsToldOf c IsSo said = (paths : List (List ℕ)) × IsTold c (line_of paths) (IsSo paths) said

-- what the words come to by themselves, and a rename in a small file
abbrev pub IsOwn : Call → Status → Type 0
IsOwn c = IsToldAs c (Answers c.words c.store.told c.store.left c.store.outcomes c.store.before c.store.after)

-- what the engine makes of requests that are asked for so, on the files that recovery has found
abbrev pub IsPlannedFor : Call → (Option Image → List Request → Type 0) → Status → Type 0
IsPlannedFor c Asks = IsToldOf c (λ paths. AnswersPlanned c.words Asks paths c.store.told c.store.left c.store.outcomes c.store.before c.store.after)

-- what an input comes to that is refused
abbrev pub IsInputRefused : Call → Status → Type 0
IsInputRefused c = IsToldAs c (AnswersPlain c.words c.store.told c.store.left c.store.outcomes c.store.before c.store.after (Hears c.input.heard c.input.before c.input.after))

-- what is said or shown of the files that recovery has found, which are left
abbrev pub IsReadBy : Option Command → Call → Status → Type 0
IsReadBy command c = IsToldOf c (λ paths. AnswersPlain c.words c.store.told c.store.left c.store.outcomes c.store.before c.store.after (Checks command c.store.left paths c.store.before c.store.after))

-- what an undo comes to: the change of the journal is taken back, or the first reason why not
abbrev pub IsUndone : Call → Status → Type 0
IsUndone c = IsToldAs c (AnswersUndo c.words c.store.told c.store.left c.store.outcomes c.store.before c.store.after)

-- What a command comes to. No command: the words are outside the grammar. A check, a run and the reports of uses are those that remain.
abbrev pub Obeys : Option Command → Call → Status → Type 0
Obeys None c said = IsOwn c said
Obeys (Some (Demo count)) c said = IsOwn c said
Obeys (Some (One request)) c said = IsOwn c said ⊎ IsPlannedFor c (AsksOne c.words) said
Obeys (Some Batch) c said = IsInputRefused c said ⊎ IsPlannedFor c (AsksAll c.words c.input.heard) said
Obeys (Some Undo) c said = IsUndone c said
Obeys (Some reading) c said = IsReadBy (Some reading) c said

-- what a call comes to
abbrev pub Comes : Call → Status → Type 0
Comes c said = Obeys (command_of c.words) c said

-- ---- the one answer that comes

-- what may be answered in place of any answer
abbrev pub Fails : Call → Status → Type 0
Fails c said = IsFailure c.store.before c.store.after c.output.before c.output.after said

-- the store tells its files, and recovery finds these
pub record Finds (c : Call) (found : Image) : Type 0 where
  pub files : Image
  pub told : c.store.told ≡ Some files
  pub restored : Restored files found

-- A rename that is served in a small file gets one of the answers to a rename, and the one that it comes to; the files are left so.
pub record IsRenamedBy (c : Call) (file : List ℕ) (at : ℕ) (name : List ℕ) (said : Status) : Type 0 where
  pub complete : (found : Image) (bytes : List ℕ) → Finds c found → Holds found file bytes → Serves bytes at name
      → IsServedAnswer c.store.before c.store.after c.output.before c.output.after said
  pub exact : (found : Image) (bytes : List ℕ) (comes_to : Renaming) → Finds c found → Holds found file bytes → Serves bytes at name → IsRenaming bytes at name comes_to
      → IsAnswered found file bytes comes_to c.store.left said ⊎ Fails c said

-- The one answer that a command gets on the files found, and the files that it leaves, unless memory runs out or a fault is counted. Of requests that the engine
-- serves nothing is said here.
abbrev pub ObeysAlone : Option Command → Call → Status → Type 0
ObeysAlone None c said = (said ≡ BadWords) ⊎ Fails c said
ObeysAlone (Some (Demo count)) c said = IsDemonstrated said ⊎ Fails c said
ObeysAlone (Some (One (Rename file at name))) c said = IsRenamedBy c file at name said
ObeysAlone (Some (One other)) c said = ⊤
-- an input that is refused
ObeysAlone (Some Batch) c said = (found : Image) (bytes : List ℕ) (why : BatchFault) → Finds c found → c.input.heard ≡ Some bytes → IsInputAnswer bytes (Err why)
    → (said ≡ status_of why) ⊎ IsBatchFailure c.store.before c.store.after c.output.before c.output.after c.input.before c.input.after said
ObeysAlone (Some Undo) c said = (found : Image) → Finds c found → IsUndoAnswer found c.store.left said ⊎ Fails c said
ObeysAlone (Some reading) c said = (found : Image) → Finds c found → IsCheckedSo (Some reading) found c.store.left said ⊎ Fails c said

-- the gate is open over no journal that can be read
abbrev pub IsUnreadable : Call → Type 0
IsUnreadable c = (files : Image) × (c.store.told ≡ Some files) × ((restored : Image) → Restored files restored → ⊥)

-- the answer is the one that comes, or a failure; where the gate is open over no journal that can be read, no command that needs the files goes on
pub record IsTheAnswer (c : Call) (said : Status) : Type 0 where
  pub answer : ObeysAlone (command_of c.words) c said
  pub journal : IsUnreadable c → AsksRecovery c.words → (said ≡ BadJournal) ⊎ Fails c said

-- the answer comes by the equation of its command, and is the one that comes
pub record IsAnswerTo (c : Call) (said : Status) : Type 0 where
  pub comes : Comes c said
  pub alone : IsTheAnswer c said
