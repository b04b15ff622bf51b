-- The answers to a batch.
use Rattle.std.specs.Prelude.{◌≡◌, ℕ, List, Option, Some, Err}
use Rattle.jr_request.specs.Input.{ForInput, IsInputAnswer}
use Rattle.jr_request.specs.declared.input_fault.BatchFault.{BatchFault}
use Rattle.jr_request.specs.declared.input_fault.BatchFault.TheVariants as fault
use Rattle.jr_request.specs.Words.{command_of}
use Rattle.jr_request.specs.declared.command.Command.TheVariants.{Batch}
use Rattle.jr_store.specs.Image.{Image, Rose}
use Rattle.jr_top.specs.Answers.{IsFailure}
use Rattle.jr_top.specs.Plain.{AnswersPlain}
use Rattle.jr_top.specs.declared.status.Status.{Status}
use Rattle.jr_top.specs.declared.status.Status.TheVariants.{BadRequest, SourceFault, TooLarge, OutOfMemory}

-- the words ask for the requests of the input
abbrev pub AsksBatch : List (List ℕ) → Type 0
AsksBatch words = command_of words ≡ Some Batch

-- what is answered to an input alone: a refusal by the first test that fails
abbrev pub Hears : Option (List ℕ) → ℕ → ℕ → Status → Type 0
Hears told quiet loud SourceFault = Rose quiet loud
Hears told quiet loud (TooLarge what request) = (request ≡ 0) × ForInput told (λ bytes. IsInputAnswer bytes (Err (fault.TooLarge what)))
Hears told quiet loud (BadRequest request reason field) = (reason ≡ 9) × ForInput told (λ bytes. IsInputAnswer bytes (Err (fault.Refused request field)))
Hears told quiet loud OutOfMemory = Unit {0}
Hears told quiet loud other = ⊥

-- the input alone is answered so, and the files are left
pub record IsHeard (told left : Option Image) (kept outcomes : Image → Type 0) (IsSo : Status → Type 0) : Type 0 where
  pub said : Status
  pub answer : IsSo said
  pub same : left ≡ told
  pub fewer : (c : Image) → outcomes c → kept c

-- When each answer comes that the engine does not give. The input is read once recovery has found the files, and they are left so.
abbrev pub AnswersBatch : List (List ℕ) → Option Image → Option Image → (Image → Type 0) → ℕ → ℕ → Option (List ℕ) → ℕ → ℕ → Status → Type 0
AnswersBatch words told left outcomes before after heard quiet loud status = AnswersPlain words told left outcomes before after (Hears heard quiet loud) status

-- the answer of the call to an input that is refused so
abbrev pub status_of : BatchFault → Status
status_of (fault.TooLarge what) = TooLarge what 0
status_of (fault.Refused element field) = BadRequest element 9 field
status_of fault.SourceFault = SourceFault
status_of fault.OutOfMemory = OutOfMemory

-- what may be answered in place of any answer to a batch: want of memory, or a fault whose count rose
abbrev pub IsBatchFailure : ℕ → ℕ → ℕ → ℕ → ℕ → ℕ → Status → Type 0
IsBatchFailure before after fewer more quiet loud SourceFault = Rose quiet loud
IsBatchFailure before after fewer more quiet loud other = IsFailure before after fewer more other
