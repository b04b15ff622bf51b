-- How the rows of a changed program stand to those of the old one.
use Rattle.std.specs.Prelude.{◌≡◌, ℕ, ◌+◌, Bool, List, [], ◌∷◌, length, map, if◌then◌else◌, nat_eq}
use Rattle.std.specs.List.{range_with_len}
use Rattle.jr_tree.specs.Rows.{Rows}
use Rattle.jr_defs.specs.Referents.{Table}
use Rattle.jr_change.specs.declared.change.Change.{Change}
use Rattle.jr_locks.specs.Origins.{no_row, origins, turned, rests}
use Rattle.jr_locks.specs.Copying.{AllCopies, name_by}
use Rattle.jr_locks.specs.Locked.{AllLocked}

-- the old row of which each row of the changed program is a copy, or no row
abbrev pub origins_by : Change → List ℕ
origins_by change = origins change.segments.items

-- and which of them have another label than that
abbrev pub turned_by : Change → List Bool
turned_by change = turned change.segments.items

-- and how many rows of its segment each has from it on, where it stands in a run of copies
abbrev pub rests_by : Change → List ℕ
rests_by change = rests change.segments.items

-- the first of the rows from one on that is a copy of the old row d, or no row
abbrev pub first_copy : List ℕ → ℕ → ℕ → ℕ
first_copy [] d at = no_row
first_copy (from ∷ rest) d at = if nat_eq from d then at else first_copy rest d (at + 1)

-- the first copy of each of so many old rows, or no row
abbrev pub copies_by : List ℕ → ℕ → List ℕ
copies_by origin old = map (λ d. first_copy origin d 0) (range_with_len 0 old)

-- each row of the changed program that comes from an old row is a copy of it, and in a run of copies ends where that does
abbrev pub AreCopies : Rows → Change → Rows → Type 0
AreCopies old change rows = AllCopies old (name_by change.namings.items) (origins_by change) (turned_by change) (rests_by change) rows (length rows)

-- The rows are those of the old program as the change says: each that comes from an old row is a copy of it, and where the change says nothing else of it, it must
-- refer to what that row refers to, where it stands now.
pub record IsChanged (old : Rows) (t : Table) (change : Change) (rows : Rows) (locks : Table) : Type 0 where
  pub count : length (origins_by change) ≡ length rows
  pub copied : AreCopies old change rows
  pub locked : AllLocked change.inner (origins_by change) (length old) t change.raised change.added.items locks (length rows)
