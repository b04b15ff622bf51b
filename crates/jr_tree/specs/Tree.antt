-- The rows of a program are those of a tree.
use Rattle.std.specs.Prelude.{◌≡◌, ℕ, suc, ◌+◌, ◌<◌, ◌≤◌, length, List}
use Rattle.jr_tree.specs.declared.tree.Unit as declared_unit
use Rattle.jr_tree.specs.Rows.{Rows, row, label, parent, end, previous, program_rows}
use Rattle.jr_tree.specs.declared.label.Label.TheVariants as is

pub record IsTree (p : Rows) : Type 0 where
  -- a row ends after its own number, and not past the last row
  pub nested : (n : ℕ) → n < end p n
  pub last : (n : ℕ) → n < length p → end p n ≤ length p
  -- all but the program stand below an earlier row
  pub root : parent p 0 ≡ 0
  pub up : (n : ℕ) → n < length p → 0 < n → parent p n < n
  pub held : (n : ℕ) → n < length p → 0 < n → n < end p (parent p n)
  -- what stands inside a row has its parent there
  pub inner : (m n : ℕ) → m < n → n < end p m → m ≤ parent p n
  -- of two rows one holds the other, or they are apart
  pub apart : (m n : ℕ) → m < n → n < end p m → end p n ≤ end p m
  -- before a row stands its parent, or the sibling that ends there
  pub before : (n : ℕ) → n < length p → 0 < n → previous p n < n

-- the law
abbrev pub EachProgramIsTree : Type 0
EachProgramIsTree = (units : List declared_unit.Unit) → IsTree (program_rows units)
