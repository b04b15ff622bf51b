-- Rows that stand in one segment of a change.
use Rattle.std.specs.Prelude.{◌≡◌, ◌⊎◌, ⊤, ℕ, ◌+◌, ◌-◌, ◌<◌, ◌≤◌, true, List, ◌∷◌, ◌++◌, length, None}
use Rattle.std.specs.List.{AllByRecursion}
use Rattle.jr_change.specs.declared.change.Change.{Change}
use Rattle.jr_change.specs.declared.change.Segment.{Segment}
use Rattle.jr_change.specs.declared.change.Segment.TheVariants as segment
use Rattle.jr_locks.specs.Origins.{no_row, origin_of, origins}
use Rattle.jr_locks.specs.Locked.{is_added}
use Rattle.jr_locks.specs.Changed.{origins_by}

-- the segment has no copy of the rows from one on before another
abbrev pub HasNoneOf : ℕ → ℕ → Segment → Type 0
HasNoneOf first end (segment.Copy from to) = (to ≤ first) ⊎ (end ≤ from)
HasNoneOf first end (segment.Turned row) = (row < first) ⊎ (end ≤ row)
HasNoneOf first end (segment.Glue count) = ⊤

-- one segment copies the rows from one on before another, and no other has a copy of one of them
pub record AreInOne (segments : List Segment) (first end : ℕ) : Type 0 where
  pub before : List Segment
  pub from : ℕ
  pub to : ℕ
  pub behind : List Segment
  pub are : segments ≡ before ++ segment.Copy from to ∷ behind
  pub low : from ≤ first
  pub high : end ≤ to
  pub apart : AllByRecursion (HasNoneOf first end) before
  pub apart_behind : AllByRecursion (HasNoneOf first end) behind

-- where the copy of the first of these rows stands
abbrev pub place_of : {segments : List Segment} {first end : ℕ} → AreInOne segments first end → ℕ
place_of {segments} {first} {end} one = length (origins one.before) + (first - one.from)

-- the change says of no copy of an old row what that refers to, and all that is declared once
pub record SaysOfNew (change : Change) : Type 0 where
  pub only : (n : ℕ) → is_added change.added.items n ≡ true → origin_of (origins_by change) n ≡ no_row
  pub nowhere : change.inner ≡ None
