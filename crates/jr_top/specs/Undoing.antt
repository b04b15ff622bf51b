-- The command `undo`, which takes the last change back.
use Rattle.std.specs.Prelude.{◌≡◌, ◌≢◌, ◌⊎◌, ℕ, List, length, Option, Some, None, IsSome}
use Rattle.jr_commit.specs.Entries.{PlainEntry}
use Rattle.jr_commit.specs.Journal.{spelling, old_sides}
use Rattle.jr_commit.specs.Restoring.{journal_path, gate_path, SameFiles}
use Rattle.jr_commit.specs.SidesAt.{IsOff}
use Rattle.jr_commit.specs.Undoing.{KeepsBoth, IsUndoable, Undone, IsFirstEdited, exchanged}
use Rattle.jr_commit.specs.declared.entry.Version.TheVariants.{Two}
use Rattle.jr_commit.specs.declared.undo.UndoFault.{UndoFault}
use Rattle.jr_commit.specs.declared.undo.UndoFault.TheVariants as fault
use Rattle.jr_request.specs.Words.{command_of}
use Rattle.jr_request.specs.declared.command.Command.TheVariants.{Undo}
use Rattle.jr_store.specs.Image.{Image, Tells, OnlyTold, Rose}
use Rattle.jr_top.specs.Plain.{AnswersPlain}
use Rattle.jr_top.specs.Recovering.{Recovers}
use Rattle.jr_top.specs.Renaming.{ForTold}
use Rattle.jr_top.specs.declared.status.Phase.TheVariants.{Reading, Writing}
use Rattle.jr_top.specs.declared.status.Report.TheVariants.{Changed}
use Rattle.jr_top.specs.declared.status.Status.{Status}
use Rattle.jr_top.specs.declared.status.Status.TheVariants.{Done, NoUndo, StoreFault, OutOfMemory}

-- the words ask for the last change to be taken back
abbrev pub AsksUndo : List (List ℕ) → Type 0
AsksUndo words = command_of words ≡ Some Undo

-- The first reason why there is nothing to take back: 1, there is no journal; 2, it does not keep both sides; 3, a file
-- was edited since, and this is the first such path.
abbrev pub IsNotUndoable : Image → ℕ → Option (List ℕ) → Type 0
IsNotUndoable files reason None = ((reason ≡ 1) × (files journal_path ≡ None))
    ⊎ ((reason ≡ 2) × IsSome (files journal_path) × ((es : List PlainEntry) → KeepsBoth files es → ⊥))
IsNotUndoable files reason (Some path) = (reason ≡ 3) × ((es : List PlainEntry) × KeepsBoth files es × IsFirstEdited files es path)

-- old and new differ at the entries' paths, the journal and the gate at most
abbrev pub MayTakeBack : List PlainEntry → Image → Image → Type 0
MayTakeBack es old new = (q : List ℕ) → IsOff (old_sides es) q → q ≢ journal_path → q ≢ gate_path → new q ≡ old q

-- The change with these entries is taken back, and nothing else has changed. The gate is closed, and the journal keeps the
-- change back, which can be taken back in its turn.
pub record IsTakenBack (es : List PlainEntry) (old new : Image) : Type 0 where
  pub undoable : IsUndoable old es
  pub files : Undone es old new
  pub journal : new journal_path ≡ Some (spelling Two (exchanged es))
  pub gate : new gate_path ≡ None
  pub again : IsUndoable new (exchanged es)
  pub others : MayTakeBack es old new

-- some change of so many entries is taken back
abbrev pub IsBack : ℕ → Image → Image → Type 0
IsBack files old new = (es : List PlainEntry) × (files ≡ length es) × IsTakenBack es old new

-- at most the files of some change that can be taken back have changed
abbrev pub IsPartlyBack : Image → Image → Type 0
IsPartlyBack old new = (es : List PlainEntry) × IsUndoable old es × MayTakeBack es old new

-- what comes on the files that recovery has found, and what it leaves
abbrev pub Undoes : Option Image → Option Image → (Image → Type 0) → ℕ → ℕ → Status → Type 0
Undoes found left outcomes before after (Done (Changed files)) = Tells found left (IsBack files) × OnlyTold left outcomes
Undoes found left outcomes before after (NoUndo reason path) = (left ≡ found) × ForTold found (λ files. IsNotUndoable files reason path)
Undoes found left outcomes before after (StoreFault Reading) = (left ≡ found) × Rose before after
Undoes found left outcomes before after (StoreFault Writing) = Tells found left IsPartlyBack × Rose before after
Undoes found left outcomes before after OutOfMemory = left ≡ found
Undoes found left outcomes before after other = ⊥

-- when each answer comes, and what it leaves: recovery's own, or one on the files that it has found
abbrev pub AnswersUndo : List (List ℕ) → Option Image → Option Image → (Image → Type 0) → ℕ → ℕ → Status → Type 0
AnswersUndo words told left outcomes before after status = AnswersPlain words told left outcomes before after (λ said. ⊥) status
    ⊎ ((found : Option Image) × Recovers told found × Undoes found left outcomes before after status)

-- The one answer on these files. Where the change is taken back, the files left are those found with each old side put
-- back, and else those found.
abbrev pub IsUndoAnswer : Image → Option Image → Status → Type 0
IsUndoAnswer found left (Done (Changed files)) = (es : List PlainEntry) × IsUndoable found es × (files ≡ length es) × Tells (Some found) left (Undone es)
IsUndoAnswer found left (NoUndo reason path) = IsNotUndoable found reason path × Tells (Some found) left (λ old new. SameFiles new old)
IsUndoAnswer found left other = ⊥

-- neither the files nor the journal have changed
abbrev pub IsKept : Image → Image → Type 0
IsKept before after = SameFiles after before × (after journal_path ≡ before journal_path)

-- the answer is done, with so many files, and the files left are the old ones
abbrev pub GivesBack : ℕ → Image → Option Image → Status → Type 0
GivesBack count old left said = (said ≡ Done (Changed count)) × Tells (Some old) left (λ was now. SameFiles now was)

-- the answer where there is no plan
abbrev pub no_undo : UndoFault → Status
no_undo fault.Failed = StoreFault Reading
no_undo fault.OutOfMemory = OutOfMemory
no_undo fault.NoJournal = NoUndo 1 None
no_undo fault.OneSided = NoUndo 2 None
no_undo (fault.Edited path) = NoUndo 3 (Some path)
