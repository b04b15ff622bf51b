use Rattle.std.proofs.Common.{◌≡◌}
use Rattle.jr_plain.specs.Search.{all_below}
use Rattle.jr_assign.specs.Assigned.{has_last}
use Rattle.jr_assign.proofs.confirm.are_last.Given as goal

abbrev pub invariant-loop-at : goal.invariant-loop-at
invariant-loop-at l = l.are ≡ all_below l.at (has_last l.rows l.facts)
