-- Copies of old rows, as the code looks them up.
use Rattle.std.specs.Prelude.{◌≡◌, ◌≢◌, ℕ, ◌<◌, ◌≤◌, Bool, false, List, [], length, Option, Some, None, if◌then◌else◌, nat_eq, slice_set}
use Rattle.jr_defs.specs.declared.referent.Referent.{Referent}
use Rattle.jr_defs.specs.declared.referent.Referent.TheVariants.{Unbound, Ambiguous, ArrayLength, Package, Declared}
use Rattle.jr_defs.specs.Referents.{Table, entries}
use Rattle.jr_change.specs.declared.change.Added.{Added}
use Rattle.jr_change.specs.declared.change.Raised.{Raised}
use Rattle.jr_change.specs.declared.change.RowRange.{RowRange}
use Rattle.jr_locks.specs.Origins.{no_row, origin_of, row_by}
use Rattle.jr_locks.specs.Locked.{IsFirstCopyOf, IsGone, IsSeenFrom, AllLocked, every, is_within, is_in, is_beside, is_added, raised_to}
use Rattle.jr_locks.specs.declared.moving.Copies.{Copies}

-- ---- one table

-- what is told of each of so many old rows is its first copy among some rows, and where nothing is told, it has none there
pub record AreTold (among : ℕ → Bool) (origin : List ℕ) (old : ℕ) (copies : List ℕ) : Type 0 where
  pub count : length copies ≡ old
  pub first : (d : ℕ) → origin_of copies d ≢ no_row → IsFirstCopyOf among origin (origin_of copies d) d
  pub whole : (d : ℕ) → origin_of copies d ≡ no_row → IsGone among origin old d

-- the same among the rows of a range before this one
pub record AreToldTo (origin : List ℕ) (old : ℕ) (copies : List ℕ) (range : RowRange) (at : ℕ) : Type 0 where
  pub told : AreTold (is_within (record { first = range.first; end = at })) origin old copies
  pub starts : range.first ≤ at
  pub ends : range.end < at → at ≤ range.first

-- with the row as the copy of an old one that has none
abbrev pub with_first : List ℕ → ℕ → ℕ → List ℕ
with_first copies d at = if nat_eq (origin_of copies d) no_row then slice_set copies d at else copies

-- with the row as the copy of its origin
abbrev pub with_row : List ℕ → ℕ → List ℕ → List ℕ
with_row origin at copies = if nat_eq (origin_of origin at) no_row then copies else with_first copies (origin_of origin at) at

-- with what others tell of an old row that has no copy
abbrev pub with_later : List ℕ → ℕ → List ℕ → List ℕ
with_later later at copies = with_first copies at (origin_of later at)

-- what one table tells, or where that tells nothing, the other one
abbrev pub earlier : ℕ → ℕ → ℕ
earlier one other = if nat_eq one no_row then other else one

-- the others are taken over for so many old rows
pub record AreJoined (before later all : List ℕ) (at : ℕ) : Type 0 where
  pub count : length all ≡ length before
  pub done : (d : ℕ) → d < at → origin_of all d ≡ earlier (origin_of before d) (origin_of later d)
  pub left : (d : ℕ) → at ≤ d → origin_of all d ≡ origin_of before d

-- ---- the tables

abbrev pub old_count : Copies → ℕ
old_count c = length c.first.items

-- the copies in which what is seen from the row n is looked for first
abbrev pub near_in : Copies → ℕ → List ℕ
near_in c n = if is_in c.range n then c.inner.items else c.outer.items

-- what is told of some rows; nothing where all rows are meant, since there is no range
abbrev pub AreToldNear : Option RowRange → (ℕ → Bool) → List ℕ → ℕ → List ℕ → Type 0
AreToldNear None among origin old near = near ≡ []
AreToldNear (Some range) among origin old near = AreTold among origin old near

-- the copies are those of rows with these origins
pub record AreAllTold (origin : List ℕ) (c : Copies) : Type 0 where
  pub fits : length origin ≤ no_row
  pub first : AreTold every origin (old_count c) c.first.items
  pub near : (n : ℕ) → AreToldNear c.range (is_beside c.range n) origin (old_count c) (near_in c n)

-- ---- what is found

abbrev pub or_first : Option ℕ → Copies → ℕ → Option ℕ
or_first (Some copy) c d = Some copy
or_first None c d = row_by (origin_of c.first.items d)

-- the copy of the old row d that is found from the row n
abbrev pub seen_in : Copies → ℕ → ℕ → Option ℕ
seen_in c n d = or_first (row_by (origin_of (near_in c n) d)) c d

abbrev pub over_level : ℕ → Option ℕ → Referent
over_level row (Some over) = Declared row (Some over)
over_level row None = Unbound

-- a declaration through the copy of its level
abbrev pub at_level : Copies → ℕ → ℕ → Option ℕ → Referent
at_level c n row None = Declared row None
at_level c n row (Some s) = over_level row (seen_in c n s)

abbrev pub copy_at : Copies → ℕ → Option ℕ → Option ℕ → Referent
copy_at c n (Some copy) level = at_level c n copy level
copy_at c n None level = Unbound

-- the copy of a declaration, through the copy of its level
abbrev pub moved_declaration : Copies → ℕ → ℕ → Option ℕ → Referent
moved_declaration c n d level = copy_at c n (seen_in c n d) level

-- what the row n must refer to whose old row referred to this
abbrev pub moved_in : Copies → ℕ → Referent → Referent
moved_in c n (Declared d level) = moved_declaration c n d level
moved_in c n Unbound = Unbound
moved_in c n Ambiguous = Ambiguous
moved_in c n ArrayLength = ArrayLength
moved_in c n Package = Package

-- what the row n of this origin must refer to
abbrev pub lock_in : Copies → Option Raised → Table → ℕ → ℕ → Referent
lock_in c raised t n from = if nat_eq from no_row then Unbound else moved_in c n (raised_to raised from (t from))

-- the copy of an old row that is found, or none where it has none
pub data IsSeen (inner : Option RowRange) (origin : List ℕ) (old n d : ℕ) : Option ℕ → Type 0 where
  seen : {c : ℕ} → IsSeenFrom inner origin old n d c → IsSeen inner origin old n d (Some c)
  unseen : IsGone every origin old d → IsSeen inner origin old n d None

-- ---- tables of locks

-- the locks of the first so many rows
pub record AreMade (origin : List ℕ) (c : Copies) (t : Table) (raised : Option Raised) (all : List Referent) (count : ℕ) : Type 0 where
  pub long : length all ≡ count
  pub locked : AllLocked c.range origin (old_count c) t raised [] (entries all) count

-- all but the rows of which the change says something are as before
pub record KeepsOthers (added : List Added) (old new : List Referent) : Type 0 where
  pub count : length new ≡ length old
  pub each : (n : ℕ) → is_added added n ≡ false → entries new n ≡ entries old n
