-- From the status that was reported to the status that is answered.
use Rattle.std.proofs.Common.{◌≡◌, ℕ, ◌≤◌, List, Option, Some, None, refl, sym, subst, ◌∙◌, inl, inr, arith}
use Rattle.std.proofs.lemmas.Option.{same_Some, none-some}
use Rattle.std.specs.Io.KnownBytes.{Appends}
use Rattle.jr_commit.specs.Restoring.{IsOpen, Restored, SameFiles}
use Rattle.jr_store.specs.Image.{Image, Rose}
use Rattle.jr_thin.specs.Renaming.{Serves}
use Rattle.jr_top.specs.Recovering.{Recovers}
use Rattle.jr_top.specs.Renaming.{AsksRename, Holds, ForTold}
use Rattle.jr_top.specs.Answers.{Answers, reported, Outcome, IsServedAnswer}
use Rattle.jr_top.specs.Crash.{Survives}
use Rattle.jr_top.specs.Performing.{Reported}
use Rattle.jr_top.specs.declared.status.Phase.TheVariants.{Recovering, Reading, Writing}
use Rattle.jr_top.specs.declared.status.Status.{Status}
use Rattle.jr_top.specs.declared.status.Status.TheVariants.{Done, BadWords, NoSpelling, BrokenRule, StoreFault, SinkFault, TooLarge, OutOfMemory, BadJournal, Differs}

-- what holds of the files that are told of holds of what is told
pub for_told : (told : Option Image) (P : Image → Type 0) → ((f : Image) → told ≡ Some f → P f) → ForTold told P
for_told None P each = tt
for_told (Some f) P each = each f refl

-- a fault that was counted later was counted in the whole call
pub rose_earlier : (before middle after : ℕ) → before ≤ middle → Rose middle after → Rose before after
rose_earlier before middle after later rose = omega arith

-- recovery has found the files that the image stood for
pub found_files : (files found : Image) (told here : Option Image) → told ≡ Some files → Restored files found → Recovers told here → (g : Image) × (here ≡ Some g) × SameFiles g found
found_files files found None here is restored recovers = absurd (none-some files is)
found_files files found (Some f) None is restored recovers = absurd recovers
found_files files found (Some f) (Some g) is restored recovers = (g, refl, recovers.files found (subst (λ (i : Image). Restored i found) (sym (same_Some f files is)) restored))

-- an image that stands for files has no bad journal
pub no_bad_journal : (files found : Image) (told : Option Image) → told ≡ Some files → Restored files found → ForTold told (λ files. IsOpen files × ((r : Image) → Restored files r → ⊥)) → ⊥
no_bad_journal files found None is restored bad = none-some files is
no_bad_journal files found (Some f) is restored bad = bad.1 found (subst (λ (i : Image). Restored i found) (sym (same_Some f files is)) restored)

module _ (words : List (List ℕ)) (told left : Option Image) (kept outcomes : Image → Type 0) (before after : ℕ) (old new : Option (List ℕ)) (fewer more : ℕ) where
  abbrev Said : Status → Type 0
  Said status = Answers words told left outcomes before after status × Survives words told kept outcomes status

  written : (status : Status) → Said status → Appends old new (reported words status) → Outcome words Said old new fewer more status
  written SinkFault said appends = absurd said.0.3
  written other said appends = (said, appends)

  pub outcome : (result : Status) → Reported words Said result old new fewer more → Outcome words Said old new fewer more result
  outcome result (status, said, inl done) = subst (Outcome words Said old new fewer more) (sym done.0) (written status said done.1)
  outcome result (status, said, inr failed) = subst (Outcome words Said old new fewer more) (sym failed.0) (status, said, failed.1, failed.2)

  -- a rename that is served, in the files found
  module _ (files found : Image) (is : told ≡ Some files) (restored : Restored files found) (file : List ℕ) (at : ℕ) (name bytes : List ℕ)
      (asks : AsksRename words file at name) (holds : Holds found file bytes) (serves : Serves bytes at name) where
    served : (status : Status) → Answers words told left outcomes before after status → IsServedAnswer before after fewer more status
    served (Done report) answers = tt
    served BadWords answers = none-some _ (sym answers.1 ∙ asks)
    served (NoSpelling request occ place lock) answers = tt
    served (BrokenRule request rule place) answers = tt
    served (TooLarge what request) answers = tt
    served BadJournal answers = no_bad_journal files found told is restored answers.2
    served (Differs request place) answers = absurd (answers.2 (_, asks, tt))
    served (StoreFault Recovering) answers = answers.2
    served (StoreFault Reading) answers = answers.3.2
    served (StoreFault Writing) answers = answers.3.1
    served OutOfMemory answers = tt
    served other answers = absurd answers.3

    pub complete : (result : Status) → Reported words Said result old new fewer more → IsServedAnswer before after fewer more result
    complete result (status, said, inl done) = subst (IsServedAnswer before after fewer more) (sym done.0) (served status said.0)
    complete result (status, said, inr failed) = subst (IsServedAnswer before after fewer more) (sym failed.0) failed.2
