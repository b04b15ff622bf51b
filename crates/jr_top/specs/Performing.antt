-- What the parts of the top call come to.
use Rattle.std.specs.Prelude.{◌≡◌, ◌≢◌, ℕ, List, [], length, Option}
use Rattle.jr_commit.specs.Planned.{Planned, KeepsJournal, ChangesOnlyPlanned}
use Rattle.jr_commit.specs.Restoring.{SameFiles}
use Rattle.jr_commit.specs.SidesAt.{with_sides}
use Rattle.jr_store.specs.Image.{Image, Tells, OnlyTold, Rose}
use Rattle.jr_top.specs.Answers.{Reports, reported}
use Rattle.jr_top.specs.declared.status.Phase.TheVariants.{Writing}
use Rattle.jr_top.specs.declared.status.Report.TheVariants.{Changed}
use Rattle.jr_top.specs.declared.status.Status.{Status}
use Rattle.jr_top.specs.declared.status.Status.TheVariants.{Done, StoreFault, OutOfMemory}

-- the files after all steps of a plan
pub record IsTaken (plan : Planned) (old new : Image) : Type 0 where
  pub files : SameFiles new (with_sides plan.steps old)
  pub others : ChangesOnlyPlanned plan old new
  pub journal : plan.steps ≢ [] → KeepsJournal plan new

-- what a commit comes to
abbrev pub Commits : Planned → Option Image → Option Image → (Image → Type 0) → (Image → Type 0) → ℕ → ℕ → Status → Type 0
Commits plan told left kept outcomes before after (Done (Changed files)) = (files ≡ length plan.steps) × Tells told left (IsTaken plan) × (plan.steps ≢ [] → OnlyTold left outcomes)
Commits plan told left kept outcomes before after (StoreFault Writing) = Tells told left (ChangesOnlyPlanned plan) × Rose before after
Commits plan told left kept outcomes before after OutOfMemory = (left ≡ told) × ((image : Image) → outcomes image → kept image)
Commits plan told left kept outcomes before after other = ⊥

-- of the status whose line is written this is so
abbrev pub ReportedOf : (Status → List ℕ) → (Status → Type 0) → Status → Option (List ℕ) → Option (List ℕ) → ℕ → ℕ → Type 0
ReportedOf line IsSo result old new fewer more = (status : Status) × IsSo status × Reports status (line status) result old new fewer more

abbrev pub Reported : List (List ℕ) → (Status → Type 0) → Status → Option (List ℕ) → Option (List ℕ) → ℕ → ℕ → Type 0
Reported words = ReportedOf (reported words)
