use Rattle.jr_plain.specs.Search.{all_such}
use Rattle.jr_rule.specs.declared.Rule.TheVariants as rule
use Rattle.jr_rule.specs.Faults.{AreFaultsOf}
use Rattle.jr_faults.specs.Added.{is_rule, AreOnly}
use Rattle.jr_assign.specs.Judged.{is_lost, verdict}
use Rattle.jr_assign.specs.Made.{blank_field}
use Rattle.jr_assign.proofs.faults.note_blanks.Given as goal

abbrev pub invariant-loop-n : goal.invariant-loop-n
invariant-loop-n l = AreFaultsOf rule.UnassignedFinal (all_such l.n (λ v. is_lost (blank_field l.rows v) (verdict l.verdicts v))) l.fn.out.items l.out.items
    × AreOnly (is_rule rule.UnassignedFinal) l.fn.out.items l.out.items
