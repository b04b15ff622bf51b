use Rattle.std.proofs.Common.{ℕ, ◌≤◌, ◌<◌}
use Rattle.jr_tree.specs.Rows.{end}
use Rattle.jr_index.specs.NodeRows.{IsNearest}
use Rattle.jr_index.proofs.index.nearest.Given as goal

abbrev pub invariant-loop-at : goal.invariant-loop-at
invariant-loop-at l = (l.unit ≤ l.at) × (l.at < end l.rows l.unit) × (l.at ≤ l.from) × ((m : ℕ) → IsNearest l.rows l.at m → IsNearest l.rows l.from m)

abbrev pub decreases-loop-at : goal.decreases-loop-at
decreases-loop-at l = l.at
