-- Where a copy of an old row ends.
use Rattle.std.specs.Prelude.{◌≡◌, ℕ, ◌+◌, ◌-◌, ◌<◌, ◌≤◌, Bool, true, false, List, length, slice_index_or}
use Rattle.jr_tree.specs.declared.label.Label.{Label}
use Rattle.jr_tree.specs.declared.label.Label.TheVariants as is
use Rattle.jr_tree.specs.Rows.{Rows, label, end}
use Rattle.jr_locks.specs.Origins.{origin_of}

-- how many rows the row n makes with all below it
abbrev pub size_at : Rows → ℕ → ℕ
size_at p n = end p n - n

-- how many rows of its run of copies stand from the row n on
abbrev pub rest_at : List ℕ → ℕ → ℕ
rest_at rests n = slice_index_or rests n 0

-- below these a declaration can be added as the last row: a unit, a type, a member
abbrev pub takes_declarations : Label → Bool
takes_declarations is.Program = true
takes_declarations is.Unit = true
takes_declarations (is.Class modifiers is_member) = true
takes_declarations (is.Interface modifiers is_member) = true
takes_declarations is.Body = true
takes_declarations _ = false

-- An old row of this size has a copy of that size, where so many rows of the run stand from the row on: the copy ends where the row does, if it ends before the run, or with
-- it and takes no declarations; and what reaches the end of the run has a copy that reaches it.
pub record IsAsLong (is_open : Bool) (rest old new : ℕ) : Type 0 where
  pub before : old < rest → new ≡ old
  pub at_end : is_open ≡ false → old ≤ rest → new ≡ old
  pub beyond : rest ≤ old → rest ≤ new

-- the row d stands in one run with all below it, and its copy is the row n
pub record StandsInOne (p : Rows) (origin rests : List ℕ) (d n : ℕ) : Type 0 where
  pub first : origin_of origin n ≡ d
  pub all : size_at p d ≤ rest_at rests n

-- the row d of p stands in q as the row n, with all below it: so many rows, with the same labels, and each ends where it did
pub record StandsAgain (p q : Rows) (d n : ℕ) : Type 0 where
  pub few : n + size_at p d ≤ length q
  pub labels : (i : ℕ) → i < size_at p d → label q (n + i) ≡ label p (d + i)
  pub ends : (i : ℕ) → i < size_at p d → end q (n + i) + d ≡ end p (d + i) + n
