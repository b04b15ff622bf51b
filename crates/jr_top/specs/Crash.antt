-- What a crash leaves, from the start of a call to its end.
use Rattle.std.specs.Prelude.{◌≡◌, ◌⊎◌, ℕ, zero, suc, List, Option, Some}
use Rattle.jr_commit.specs.Entries.{PlainEntry}
use Rattle.jr_commit.specs.Journal.{old_sides}
use Rattle.jr_commit.specs.Restoring.{journal_path, IsOpen, Restored, RestoresTo, SameFiles, StartsRecover}
use Rattle.jr_commit.specs.SidesAt.{with_sides}
use Rattle.jr_commit.specs.Undoing.{IsUndoable}
use Rattle.jr_store.specs.Image.{Image, Rose}
use Rattle.jr_top.specs.Changing.{IsChanged}
use Rattle.jr_top.specs.Engine.{StandsForPlanned}
use Rattle.jr_top.specs.Renaming.{AsksRename}
use Rattle.jr_top.specs.Undoing.{AsksUndo}
use Rattle.jr_top.specs.declared.status.Report.TheVariants.{Changed}
use Rattle.jr_top.specs.declared.status.Status.{Status}
use Rattle.jr_top.specs.declared.status.Status.TheVariants.{Done, StoreFault, SinkFault}

-- the image stands for the files of the rename that the words ask for
abbrev pub StandsForRename : List (List ℕ) → Image → Image → Type 0
StandsForRename words found image = (file : List ℕ) × (at : ℕ) × (name : List ℕ) × AsksRename words file at name
    × (changed : Image) × IsChanged file at name found changed × RestoresTo image changed

-- the words ask for the last change to be taken back, and the image stands for the files of before it
abbrev pub StandsForUndone : List (List ℕ) → Image → Image → Type 0
StandsForUndone words found image = AsksUndo words × ((es : List PlainEntry) × IsUndoable found es × RestoresTo image (with_sides (old_sides es) found))

-- the image stands for the files of the change that the words ask for
abbrev pub StandsForChange : List (List ℕ) → Image → Image → Type 0
StandsForChange words found image = StandsForRename words found image ⊎ (StandsForUndone words found image ⊎ StandsForPlanned words found image)

-- the image stands for the files found, or for those of the change
abbrev pub StandsForEither : List (List ℕ) → Image → Image → Type 0
StandsForEither words found image = RestoresTo image found ⊎ StandsForChange words found image

-- what an image that a crash leaves after the answer stands for
abbrev pub StandsAfter : List (List ℕ) → Image → Status → Image → Type 0
StandsAfter words found (Done (Changed zero)) image = RestoresTo image found
StandsAfter words found (Done (Changed (suc n))) image = StandsForChange words found image
StandsAfter words found (StoreFault phase) image = StandsForEither words found image
StandsAfter words found other image = RestoresTo image found

-- after the answer, where a crash before the call left what recovery can begin with
abbrev pub Survives : List (List ℕ) → Option Image → (Image → Type 0) → (Image → Type 0) → Status → Type 0
Survives words told before after status = (files found : Image) → told ≡ Some files → Restored files found → StartsRecover files before
    → (image : Image) → after image → StandsAfter words found status image

-- Recovery has ended: the gate is closed, the files and the journal are those found, and a crash leaves the files so.
pub record IsSettled (files found : Image) (outcomes : Image → Type 0) : Type 0 where
  pub shut : IsOpen files → ⊥
  pub same : SameFiles files found
  pub journal : files journal_path ≡ found journal_path
  pub left : (image : Image) → outcomes image → (IsOpen image → ⊥) × SameFiles image found

-- after the answer, where recovery has ended before
abbrev pub SurvivesSettled : List (List ℕ) → Option Image → (Image → Type 0) → (Image → Type 0) → Status → Type 0
SurvivesSettled words told before after status = (files found : Image) → told ≡ Some files → IsSettled files found before
    → (image : Image) → after image → StandsAfter words found status image

-- A call may begin after the answer. After a fault of the store it need not, nor after a fault of the output that came
-- with one.
abbrev pub LeavesStart : ℕ → ℕ → Type 0 → Status → Type 0
LeavesStart before after Begins (StoreFault phase) = Unit {0}
LeavesStart before after Begins SinkFault = Begins ⊎ Rose before after
LeavesStart before after Begins other = Begins

-- the answer is no fault of the store or of the output
abbrev pub IsNoFault : Status → Type 0
IsNoFault (StoreFault phase) = ⊥
IsNoFault SinkFault = ⊥
IsNoFault other = Unit {0}
