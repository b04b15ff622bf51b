use Rattle.std.proofs.Common.{◌≡◌}
use Rattle.jr_index.specs.NodeRows.{unit_rows}
use Rattle.jr_index.proofs.index.units_of.Given as goal

abbrev pub invariant-loop-at : goal.invariant-loop-at
invariant-loop-at l = l.all.items ≡ unit_rows l.rows l.at
