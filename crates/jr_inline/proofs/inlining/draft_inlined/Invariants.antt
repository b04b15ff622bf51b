use Rattle.std.proofs.Common.{◌≡◌}
use Rattle.jr_marks.specs.Places.{IsOrdered}
use Rattle.jr_inline.specs.Inlining.{plan_by, units_to}
use Rattle.jr_inline.proofs.inlining.draft_inlined.Given as goal

abbrev pub invariant-loop-unit : goal.invariant-loop-unit
invariant-loop-unit l = IsOrdered l.marks → l.draft ≡ units_to l.marks (plan_by l.inlining) l.unit
