-- What a change of one file leaves.
use Rattle.std.specs.Prelude.{◌≡◌, ◌≢◌, ℕ, ◌<◌, ◌≤◌, List, [], ◌∷◌, length, Some, None, IsTrue}
use Rattle.std.specs.Global.{Vec}
use Rattle.std.specs.List.{AllByRecursion}
use Rattle.jr_base.specs.Paths.{is_java}
use Rattle.jr_commit.specs.Entries.{PlainEntry}
use Rattle.jr_commit.specs.Journal.{spelling, IsIn, PutsBack}
use Rattle.jr_commit.specs.Planned.{Planned}
use Rattle.jr_commit.specs.Restoring.{journal_path, gate_path}
use Rattle.jr_commit.specs.SidesAt.{SideAt}
use Rattle.jr_commit.specs.Undoing.{IsUndoable}
use Rattle.jr_commit.specs.declared.entry.Version.TheVariants.{Two}
use Rattle.jr_store.specs.Image.{Image}
use Rattle.jr_thin.specs.Renaming.{IsDone}
use Rattle.jr_top.specs.Renaming.{Holds}

-- The file holds the new bytes, which are the old ones with the rename made, and no other `.java` file has changed.
pub record IsChanged (file : List ℕ) (at : ℕ) (name : List ℕ) (old new : Image) : Type 0 where
  pub before : List ℕ
  pub after : List ℕ
  pub held : Holds old file before
  pub renamed : IsDone before at name after
  pub differs : after ≢ before
  pub fits : length after ≤ 1048576
  pub there : new file ≡ Some after
  pub others : (q : List ℕ) → IsTrue (is_java q) → q ≢ file → new q ≡ old q

-- the changed text, which memory holds, is longer than 1,048,576 bytes
abbrev pub IsTooLong : List ℕ → ℕ → List ℕ → Type 0
IsTooLong old at name = (new : Vec ℕ) × IsDone old at name new.items × (1048576 < length new.items)

-- the entry of the change of one file, alone
abbrev pub entry_of : List ℕ → List ℕ → List ℕ → List PlainEntry
entry_of file before after = (file, Some (Some before), Some (Some after)) ∷ []

-- the journal of the change of one file, in version 2
abbrev pub journal_of : List ℕ → List ℕ → List ℕ → List ℕ
journal_of file before after = spelling Two (entry_of file before after)

-- old and new differ at the file, the journal and the gate at most
abbrev pub MayChange : List ℕ → Image → Image → Type 0
MayChange file old new = (q : List ℕ) → q ≢ file → q ≢ journal_path → q ≢ gate_path → new q ≡ old q

-- The file is changed, the journal is that of the change, which can be taken back, the gate is closed, and nothing else has changed.
pub record IsCommitted (file : List ℕ) (at : ℕ) (name : List ℕ) (old new : Image) : Type 0 where
  pub changed : IsChanged file at name old new
  pub journal : new journal_path ≡ Some (journal_of file changed.before changed.after)
  pub undoable : IsUndoable new (entry_of file changed.before changed.after)
  pub gate : new gate_path ≡ None
  pub others : MayChange file old new

-- The plan writes the one file, and its journal is that of the change, in the grammar. Where the file is held, so is each old side.
pub record IsPlanOf (file before after : List ℕ) (plan : Planned) : Type 0 where
  pub steps : plan.steps ≡ (file, Some after) ∷ []
  pub journal : plan.journal ≡ journal_of file before after
  pub kept : IsIn Two plan.journal (entry_of file before after)
  pub olds : (files : Image) → Holds files file before → (olds : List SideAt) → PutsBack plan.journal olds → AllByRecursion (λ e. files e.0 ≡ e.1) olds
