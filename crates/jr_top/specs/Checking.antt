-- The command `check`.
use Rattle.std.specs.Prelude.{◌≡◌, ℕ, ◌≤◌, List, length, Contains, Option, Some, None, Ok, Err}
use Rattle.std.specs.FinMap as map
use Rattle.jr_base.specs.Files.{FileMap}
use Rattle.jr_base.specs.declared.limits.Size.{Size}
use Rattle.jr_lex.specs.declared.fault.LexFault.TheVariants as lexing
use Rattle.jr_parse.specs.declared.fault.ParseFault.TheVariants as parsing
use Rattle.jr_front.specs.Checking.{CheckedAs}
use Rattle.jr_front.specs.declared.fault.FrontFault.{FrontFault}
use Rattle.jr_front.specs.declared.fault.FrontFault.TheVariants as front
use Rattle.jr_gather.specs.Gathering.{HoldsFiles, IsFirstTooLarge}
use Rattle.jr_change.specs.declared.reason.Reason.{Reason}
use Rattle.jr_commit.specs.Restoring.{SameFiles}
use Rattle.jr_request.specs.Words.{command_of}
use Rattle.jr_request.specs.declared.command.Command.{Command}
use Rattle.jr_request.specs.declared.command.Command.TheVariants.{Check, Run, Refs, Subtypes, Callers}
use Rattle.jr_store.specs.Image.{Image, Tells, Rose}
use Rattle.jr_run.specs.declared.fault.RunFault.TheVariants as run
use Rattle.jr_top.specs.Plain.{AnswersPlain}
use Rattle.jr_top.specs.Reasons.{reason_number}
use Rattle.jr_top.specs.Renaming.{ForTold}
use Rattle.jr_top.specs.Showing.{IsAnswerTo}
use Rattle.jr_top.specs.declared.status.Phase.TheVariants.{Reading}
use Rattle.jr_top.specs.declared.status.Report.TheVariants.{Checked, Printed}
use Rattle.jr_top.specs.declared.status.Status.{Status}
use Rattle.jr_top.specs.declared.status.Status.TheVariants.{Done, BadRequest, NotCompiling, StoreFault, TooLarge, OutOfMemory}
use Rattle.jr_top.specs.declared.status.NotCompiling.TheVariants as fault

-- a command that reads the files and leaves them: a check, a run, or a report of uses
abbrev pub IsReading : Command → Type 0
IsReading Check = Unit {0}
IsReading (Run class steps) = Unit {0}
IsReading (Refs file at) = Unit {0}
IsReading (Subtypes file at) = Unit {0}
IsReading (Callers file at) = Unit {0}
IsReading other = ⊥

-- the words ask for such a command
abbrev pub AsksReading : List (List ℕ) → Type 0
AsksReading words = (command : Command) × (command_of words ≡ Some command) × IsReading command

-- the answer to files that do not compile, by the first reason
abbrev pub status_of : FrontFault → Status
status_of (front.TooLarge what) = TooLarge what 0
status_of (front.Lex cu (lexing.BadByte at)) = NotCompiling (fault.Lex 1 (record { cu = cu; at = at }))
status_of (front.Lex cu (lexing.OpenComment at)) = NotCompiling (fault.Lex 2 (record { cu = cu; at = at }))
status_of (front.Lex cu (lexing.OpenLiteral at)) = NotCompiling (fault.Lex 3 (record { cu = cu; at = at }))
status_of (front.Lex cu (lexing.BadEscape at)) = NotCompiling (fault.Lex 4 (record { cu = cu; at = at }))
status_of (front.Lex cu (lexing.BadNumber at)) = NotCompiling (fault.Lex 5 (record { cu = cu; at = at }))
status_of (front.Lex cu (lexing.NotUtf8 at)) = NotCompiling (fault.Lex 6 (record { cu = cu; at = at }))
status_of (front.Lex cu lexing.OutOfMemory) = OutOfMemory
status_of (front.Parse (parsing.NoTree number) place) = NotCompiling (fault.Parse 1 place)
status_of (front.Parse (parsing.TooDeep number) place) = NotCompiling (fault.Parse 2 place)
status_of (front.Parse parsing.OutOfMemory place) = OutOfMemory
status_of (front.PathMismatch cu) = NotCompiling (fault.PathMismatch cu)
status_of (front.Duplicate place) = NotCompiling (fault.Duplicate place)
status_of (front.Cycle place) = NotCompiling (fault.Cycle place)
status_of (front.Unbound place) = NotCompiling (fault.Unbound place)
status_of (front.Broken rule place) = NotCompiling (fault.Rule rule place)
status_of front.OutOfMemory = OutOfMemory

-- What is said of the files: what the front says of all `.java` files, unless they are too large to be read. The paths of a line are those of the files.
pub data IsVerdict (f : Image) (paths : List (List ℕ)) (status : Status) : Type 0 where
  accepted : {found : FileMap} → HoldsFiles f found → CheckedAs found (Ok tt) → status ≡ Done (Checked (map.len found)) → IsVerdict f paths status
  refused : {found : FileMap} {why : FrontFault} → HoldsFiles f found → CheckedAs found (Err why) → paths ≡ map.keys found → status ≡ status_of why → IsVerdict f paths status
  oversized : {what : Size} → IsFirstTooLarge f what → status ≡ TooLarge what 0 → IsVerdict f paths status

-- what the front says of the files that were read
pub data Fronted (found : FileMap) (paths : List (List ℕ)) (status : Status) : Type 0 where
  front_accepts : CheckedAs found (Ok tt) → status ≡ Done (Checked (map.len found)) → Fronted found paths status
  front_refuses : {why : FrontFault} → CheckedAs found (Err why) → paths ≡ map.keys found → status ≡ status_of why → Fronted found paths status
  front_wants_memory : status ≡ OutOfMemory → Fronted found paths status

-- What is shown of the files: a text of those that compile, or why what is asked for cannot be, and else what the front says of them, unless they are too large
-- to be read. To a run the text is what the machine prints.
pub data IsShown (asked : Option Command) (f : Image) (paths : List (List ℕ)) (status : Status) : Type 0 where
  shows : {found : FileMap} {text : List ℕ} → HoldsFiles f found → CheckedAs found (Ok tt) → IsAnswerTo asked found (Ok text) → status ≡ Done (Printed text) → IsShown asked f paths status
  shows_none : {found : FileMap} (reason : Reason) → HoldsFiles f found → CheckedAs found (Ok tt) → IsAnswerTo asked found (Err (run.Bad reason)) → status ≡ BadRequest 0 (reason_number reason) None → IsShown asked f paths status
  shows_refusal : {found : FileMap} {why : FrontFault} → HoldsFiles f found → CheckedAs found (Err why) → paths ≡ map.keys found → status ≡ status_of why → IsShown asked f paths status
  shows_size : {what : Size} → IsFirstTooLarge f what → status ≡ TooLarge what 0 → IsShown asked f paths status

-- what is shown of the files that were read
pub data Showed (asked : Option Command) (found : FileMap) (paths : List (List ℕ)) (status : Status) : Type 0 where
  has_text : {text : List ℕ} → CheckedAs found (Ok tt) → IsAnswerTo asked found (Ok text) → status ≡ Done (Printed text) → Showed asked found paths status
  has_reason : (reason : Reason) → CheckedAs found (Ok tt) → IsAnswerTo asked found (Err (run.Bad reason)) → status ≡ BadRequest 0 (reason_number reason) None → Showed asked found paths status
  has_refusal : {why : FrontFault} → CheckedAs found (Err why) → paths ≡ map.keys found → status ≡ status_of why → Showed asked found paths status
  has_no_memory : status ≡ OutOfMemory → Showed asked found paths status

-- what is said of the files to a check, and to another command that reads them
abbrev pub IsSaid : Option Command → Image → List (List ℕ) → Status → Type 0
IsSaid (Some Check) f paths status = IsVerdict f paths status
IsSaid other f paths status = IsShown other f paths status

-- when each answer comes
abbrev pub Checks : Option Command → Option Image → List (List ℕ) → ℕ → ℕ → Status → Type 0
Checks asked told paths before after (Done (Checked files)) = ForTold told (λ f. IsSaid asked f paths (Done (Checked files)))
Checks asked told paths before after (Done (Printed text)) = ForTold told (λ f. IsSaid asked f paths (Done (Printed text)))
Checks asked told paths before after (BadRequest request reason field) = ForTold told (λ f. IsSaid asked f paths (BadRequest request reason field))
Checks asked told paths before after (NotCompiling why) = ForTold told (λ f. IsSaid asked f paths (NotCompiling why))
Checks asked told paths before after (TooLarge what request) = ForTold told (λ f. IsSaid asked f paths (TooLarge what request))
Checks asked told paths before after (StoreFault Reading) = Rose before after
Checks asked told paths before after OutOfMemory = Unit {0}
Checks asked told paths before after other = ⊥

-- When each answer to a command comes that reads the files. They are those that recovery has found, and are left.
abbrev pub AnswersReading : List (List ℕ) → List (List ℕ) → Option Image → Option Image → (Image → Type 0) → ℕ → ℕ → Status → Type 0
AnswersReading words paths told left outcomes before after status = AnswersPlain words told left outcomes before after (Checks (command_of words) left paths before after) status

-- the answer is that of the files found, and they are left
pub record IsCheckedSo (asked : Option Command) (found : Image) (left : Option Image) (status : Status) : Type 0 where
  pub paths : List (List ℕ)
  pub answer : IsSaid asked found paths status
  pub files : Tells (Some found) left (λ old new. SameFiles new old)
