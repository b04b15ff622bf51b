use Rattle.std.proofs.Common.{◌≡◌}
use Rattle.jr_plain.specs.Search.{all_below}
use Rattle.jr_assign.specs.Initialized.{is_linked}
use Rattle.jr_assign.proofs.scope.are_linked.Given as goal

abbrev pub invariant-loop-at : goal.invariant-loop-at
invariant-loop-at l = l.are ≡ all_below l.at (is_linked l.rows)
