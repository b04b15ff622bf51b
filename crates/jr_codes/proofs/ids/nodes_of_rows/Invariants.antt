use Rattle.std.proofs.Common.{◌≡◌}
use Rattle.jr_codes.specs.Numbered.{count_to, counted_nodes}
use Rattle.jr_codes.proofs.ids.nodes_of_rows.Given as goal

abbrev pub invariant-loop-row : goal.invariant-loop-row
invariant-loop-row l = (l.count ≡ count_to l.rows l.row-index) × (l.nodes.items ≡ counted_nodes l.rows l.row-index)
