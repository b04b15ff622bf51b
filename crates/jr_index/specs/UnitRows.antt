-- The laws of the rows of units: they are among the rows, one behind another, and each unit of a program has one.
use Rattle.std.specs.Prelude.{◌≡◌, ℕ, ◌<◌, ◌≤◌, List, length, slice_index_or}
use Rattle.std.specs.List.{AllByRecursion}
use Rattle.std.specs.List.Sorted.{IsNonDecreasing}
use Rattle.jr_tree.specs.declared.tree.Unit as declared_unit
use Rattle.jr_tree.specs.Shape.{IsShaped}
use Rattle.jr_tree.specs.Rows.{Rows, program_rows}
use Rattle.jr_index.specs.NodeRows.{unit_rows}

pub record AreInOrder (p : Rows) : Type 0 where
  pub few : length (unit_rows p (length p)) ≤ length p
  pub within : (u d : ℕ) → u < length (unit_rows p (length p)) → slice_index_or (unit_rows p (length p)) u d < length p
  pub rise : IsNonDecreasing (unit_rows p (length p))

abbrev pub UnitsAreInOrder : Type 0
UnitsAreInOrder = (p : Rows) → AreInOrder p

abbrev pub UnitsHaveRows : Type 0
UnitsHaveRows = (units : List declared_unit.Unit) → AllByRecursion IsShaped units → length (unit_rows (program_rows units) (length (program_rows units))) ≡ length units
