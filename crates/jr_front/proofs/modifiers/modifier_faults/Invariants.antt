use Rattle.jr_plain.specs.Search.{all_such}
use Rattle.jr_rule.specs.Faults.{AreFaultsOf}
use Rattle.jr_rule.specs.declared.Rule.TheVariants as rule
use Rattle.jr_faults.specs.Added.{AreOnly, is_rule}
use Rattle.jr_marks.specs.Places.{IsOrdered}
use Rattle.jr_front.specs.Modifiers.{breaks_modifiers}
use Rattle.jr_front.proofs.modifiers.modifier_faults.Given as goal

abbrev pub invariant-loop-at : goal.invariant-loop-at
invariant-loop-at l = (IsOrdered l.fn.marks → AreFaultsOf rule.Modifiers (all_such l.at (breaks_modifiers l.fn.marks)) l.fn.out.items l.out.items) × AreOnly (is_rule rule.Modifiers) l.fn.out.items l.out.items
