-- What requests come to on files: the files left, or why they are refused.
use Rattle.std.specs.Prelude.{◌≡◌, ℕ, List, Result, Ok, Err, IsTrue}
use Rattle.std.specs.FinMap as map
use Rattle.std.specs.List.{AllByRecursion}
use Rattle.jr_base.specs.Files.{FileMap}
use Rattle.jr_base.specs.Paths.{is_java}
use Rattle.jr_base.specs.declared.request.Request.{Request}
use Rattle.jr_front.specs.Checking.{CheckedAs}
use Rattle.jr_front.specs.declared.fault.FrontFault.{FrontFault}
use Rattle.jr_engine.specs.Refusing.{IsRefusedFrom}
use Rattle.jr_engine.specs.Steps.{Opened, IsOpened, AreSteps}
use Rattle.jr_engine.specs.declared.fault.EngineFault.{EngineFault}
use Rattle.jr_engine.specs.declared.fault.EngineFault.TheVariants as fault
use Rattle.jr_engine.specs.declared.fault.Refused.{Refused}
use Rattle.jr_engine.specs.declared.fault.StepFault.TheVariants as step

-- the front accepts the files, whose paths end in `.java`
pub record IsAccepted (files : FileMap) : Type 0 where
  pub checked : CheckedAs files (Ok tt)
  pub java : AllByRecursion (λ path. IsTrue (is_java path)) (map.keys files)

-- why nothing is left, and the number that is told: the files found do not compile, which is no fault of a request, or they do, and a request leaves nothing of what those before it have left; or want of memory
pub data RefusedAs (found : FileMap) (requests : List Request) : ℕ → EngineFault → Type 0 where
  not_compiling : {why : FrontFault} → CheckedAs found (Err why) → RefusedAs found requests 0 (fault.Front why)
  refused : {first : Opened} {number : ℕ} {why : EngineFault} → first.files ≡ found → IsOpened first → IsRefusedFrom first requests number why → RefusedAs found requests number why
  memory : {number : ℕ} → RefusedAs found requests number (fault.Step step.OutOfMemory)

-- the files left come from those found by a step a request
pub record IsPlanned (found : FileMap) (requests : List Request) (left : FileMap) : Type 0 where
  pub first : Opened
  pub last : Opened
  pub begins : first.files ≡ found
  pub ends : last.files ≡ left
  pub opened : IsOpened first
  pub steps : AreSteps first requests last

-- what the requests come to: files left that the front accepts, as it accepts those found, and that come from these by the requests, or a refusal
abbrev pub PlannedAs : FileMap → List Request → Result FileMap Refused → Type 0
PlannedAs found requests (Ok left) = IsAccepted found × IsAccepted left × IsPlanned found requests left
PlannedAs found requests (Err why) = RefusedAs found requests why.request why.fault
