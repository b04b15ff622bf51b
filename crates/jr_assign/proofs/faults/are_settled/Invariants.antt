use Rattle.std.proofs.Common.{◌≡◌}
use Rattle.jr_plain.specs.Search.{all_below}
use Rattle.jr_assign.specs.Changes.{fact}
use Rattle.jr_assign.specs.Judged.{is_settled, verdict}
use Rattle.jr_assign.proofs.faults.are_settled.Given as goal

abbrev pub invariant-loop-at : goal.invariant-loop-at
invariant-loop-at l = l.are ≡ all_below l.at (λ n. is_settled (fact l.facts n).read (verdict l.verdicts n))
