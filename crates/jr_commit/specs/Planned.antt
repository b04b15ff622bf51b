-- What a plan does, without where it lies in memory.
use Rattle.std.specs.Prelude.{◌≡◌, ◌≢◌, ℕ, List, [], Some, None}
use Rattle.std.specs.List.{AllByRecursion}
use Rattle.jr_store.specs.Image.{Image}
use Rattle.jr_commit.specs.SidesAt.{SideAt, paths_of, IsOff}
use Rattle.jr_commit.specs.Entries.{PlainEntry, names_of}
use Rattle.jr_commit.specs.Journal.{IsIn, IsRising, PutsBack}
use Rattle.jr_commit.specs.Restoring.{journal_path, gate_path, IsOpen, SameFiles}
use Rattle.jr_commit.specs.declared.entry.Version.TheVariants.{Two}

-- the bytes of the journal, and what stands at each path after its step
pub record Planned : Type 0 where
  pub journal : List ℕ
  pub steps : List SideAt

-- the journal is of version 2, with one entry for each step's path and no other
abbrev pub HasEntries : List ℕ → List SideAt → Type 0
HasEntries journal steps = (es : List PlainEntry) × IsIn Two journal es × (names_of es ≡ paths_of steps)

-- The steps are in path order. Where there is one, the journal has their entries, and the two paths are those of the
-- journal and the gate.
pub record IsPlan (journal : List ℕ) (steps : List SideAt) (at_journal at_gate : List ℕ) : Type 0 where
  pub ordered : IsRising (paths_of steps)
  pub entries : steps ≢ [] → HasEntries journal steps
  pub journal_is : steps ≢ [] → at_journal ≡ journal_path
  pub gate_is : steps ≢ [] → at_gate ≡ gate_path

-- The files are f, with a closed gate, and each path of the plan's journal holds its entry's old side. A crash leaves
-- a closed gate and the same files.
pub record StartsCommit (f : Image) (outcomes : Image → Type 0) (plan : Planned) : Type 0 where
  pub shut : IsOpen f → ⊥
  pub gate : (c : Image) → outcomes c → IsOpen c → ⊥
  pub files : (c : Image) → outcomes c → SameFiles c f
  pub olds : (olds : List SideAt) → PutsBack plan.journal olds → AllByRecursion (λ e. f e.0 ≡ e.1) olds

-- the journal is that of the plan, and the gate is closed
abbrev pub KeepsJournal : Planned → Image → Type 0
KeepsJournal plan image = (image journal_path ≡ Some plan.journal) × (image gate_path ≡ None)

-- old and new differ at the steps' paths, the journal and the gate at most
abbrev pub ChangesOnlyPlanned : Planned → Image → Image → Type 0
ChangesOnlyPlanned plan old new = (q : List ℕ) → q ≢ journal_path → q ≢ gate_path → IsOff plan.steps q → new q ≡ old q
