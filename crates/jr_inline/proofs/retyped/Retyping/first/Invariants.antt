use Rattle.jr_marks.specs.Places.{IsOrdered}
use Rattle.jr_inline.specs.Retyping.{IsFoundBelow, comparison, is_retyped}
use Rattle.jr_inline.proofs.retyped.Retyping.first.Given as goal

abbrev pub invariant-loop-row : goal.invariant-loop-row
invariant-loop-row l = IsOrdered l.marks → IsFoundBelow (is_retyped (comparison l.self)) l.marks l.row l.first
