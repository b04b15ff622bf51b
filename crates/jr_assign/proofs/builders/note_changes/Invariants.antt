use Rattle.jr_plain.specs.Search.{all_such}
use Rattle.jr_rule.specs.declared.Rule.TheVariants as rule
use Rattle.jr_rule.specs.Faults.{AreFaultsOf}
use Rattle.jr_faults.specs.Added.{is_rule, AreOnly}
use Rattle.jr_assign.specs.Changes.{is_wrong_at, member_in}
use Rattle.jr_assign.proofs.builders.note_changes.Given as goal

abbrev pub invariant-loop-n : goal.invariant-loop-n
invariant-loop-n l = AreFaultsOf rule.FinalAssignment (all_such l.n (is_wrong_at l.rows l.changed (member_in l.members))) l.fn.out.items l.out.items
    × AreOnly (is_rule rule.FinalAssignment) l.fn.out.items l.out.items
