-- The last change, taken back.
use Rattle.std.specs.Prelude.{◌≡◌, ◌⊎◌, ℕ, List, [], ◌∷◌, map, Option, Some, None, IsSome}
use Rattle.std.specs.List.{AllByRecursion}
use Rattle.jr_store.specs.Image.{Image}
use Rattle.jr_commit.specs.Differences.{Pair}
use Rattle.jr_commit.specs.Entries.{Known, PlainEntry}
use Rattle.jr_commit.specs.Journal.{spelling, IsIn, old_sides, PutsBack}
use Rattle.jr_commit.specs.Planned.{Planned}
use Rattle.jr_commit.specs.Restoring.{journal_path, SameFiles}
use Rattle.jr_commit.specs.SidesAt.{SideAt, with_sides}
use Rattle.jr_commit.specs.declared.entry.Version.TheVariants.{Two}
use Rattle.jr_commit.specs.declared.undo.UndoFault.{UndoFault}
use Rattle.jr_commit.specs.declared.undo.UndoFault.TheVariants.{Failed, NoJournal, OneSided, Edited, OutOfMemory}

-- the journal is of version 2, which keeps both sides, and has these entries
abbrev pub KeepsBoth : Image → List PlainEntry → Type 0
KeepsBoth files es = (bytes : List ℕ) × (files journal_path ≡ Some bytes) × IsIn Two bytes es

-- the path of the entry holds just what stood there after the change
abbrev pub HoldsNew : Image → PlainEntry → Type 0
HoldsNew files e = e.2 ≡ Some (files e.0)

-- The journal keeps both sides, and each of its paths holds its new side.
pub record IsUndoable (files : Image) (es : List PlainEntry) : Type 0 where
  pub journal : KeepsBoth files es
  pub holds : AllByRecursion (HoldsNew files) es

-- each path of the entries holds its old side, and every other file is as it was
abbrev pub Undone : List PlainEntry → Image → Image → Type 0
Undone es old new = SameFiles new (with_sides (old_sides es) old)

-- the first entry whose path does not hold its new side is that of this path
abbrev pub IsFirstEdited : Image → List PlainEntry → List ℕ → Type 0
IsFirstEdited files [] path = ⊥
IsFirstEdited files (e ∷ es) path = ((HoldsNew files e → ⊥) × (path ≡ e.0)) ⊎ (HoldsNew files e × IsFirstEdited files es path)

-- why the last change is not taken back: the first reason in this order
abbrev pub IsUndoFault : Image → UndoFault → Type 0
IsUndoFault files NoJournal = files journal_path ≡ None
IsUndoFault files OneSided = IsSome (files journal_path) × ((es : List PlainEntry) → KeepsBoth files es → ⊥)
IsUndoFault files (Edited path) = (es : List PlainEntry) × KeepsBoth files es × IsFirstEdited files es path
IsUndoFault files Failed = Unit {0}
IsUndoFault files OutOfMemory = Unit {0}

-- the entries of the change back: both sides exchanged
abbrev pub exchanged : List PlainEntry → List PlainEntry
exchanged es = map (λ e. (e.0, e.2, e.1)) es

-- The plan puts back each old side, and its journal keeps the change back. Where the files hold the new sides, they hold
-- the old sides of that journal.
pub record TakesBack (es : List PlainEntry) (plan : Planned) : Type 0 where
  pub journal : plan.journal ≡ spelling Two (exchanged es)
  pub steps : plan.steps ≡ old_sides es
  pub again : IsIn Two plan.journal (exchanged es)
  pub olds : (files : Image) → AllByRecursion (HoldsNew files) es → (olds : List SideAt) → PutsBack plan.journal olds → AllByRecursion (λ e. files e.0 ≡ e.1) olds

-- the bytes of a side, or none
abbrev pub bytes_of : Known → Option (List ℕ)
bytes_of None = None
bytes_of (Some side) = side

-- an entry as a pair of sides, from the new one to the old
abbrev pub pair_back : PlainEntry → Pair
pair_back e = (e.0, bytes_of e.2, bytes_of e.1)

abbrev pub pairs_back : List PlainEntry → List Pair
pairs_back es = map pair_back es
