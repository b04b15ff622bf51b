use Rattle.jr_plain.specs.Search.{all_such}
use Rattle.jr_rule.specs.declared.Rule.TheVariants as rule
use Rattle.jr_rule.specs.Faults.{AreFaultsOf}
use Rattle.jr_faults.specs.Added.{is_rule, AreOnly}
use Rattle.jr_assign.specs.Changes.{fact}
use Rattle.jr_assign.specs.Judged.{is_lost, verdict}
use Rattle.jr_assign.proofs.faults.note_reads.Given as goal

abbrev pub invariant-loop-at : goal.invariant-loop-at
invariant-loop-at l = AreFaultsOf rule.UnassignedLocal (all_such l.at (λ n. is_lost (fact l.facts n).read (verdict l.verdicts n))) l.fn.out.items l.out.items
    × AreOnly (is_rule rule.UnassignedLocal) l.fn.out.items l.out.items
