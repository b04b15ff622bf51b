use Rattle.std.proofs.Common.{◌≡◌}
use Rattle.jr_tree.specs.Rows.{nodes_before}
use Rattle.jr_index.specs.NodeRows.{counts}
use Rattle.jr_index.proofs.index.counts_of.Given as goal

abbrev pub invariant-loop-row : goal.invariant-loop-row
invariant-loop-row l = (l.count ≡ nodes_before l.rows l.row-index) × (l.all.items ≡ counts l.rows l.row-index)
