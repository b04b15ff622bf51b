use Rattle.std.proofs.Common.{◌≡◌}
use Rattle.jr_plain.specs.Search.{all_below}
use Rattle.jr_assign.specs.Assigned.{has_parts}
use Rattle.jr_assign.proofs.confirm.have_parts.Given as goal

abbrev pub invariant-loop-at : goal.invariant-loop-at
invariant-loop-at l = l.have ≡ all_below l.at (has_parts l.rows l.facts)
