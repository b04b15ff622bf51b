use Rattle.std.proofs.Common.{◌≡◌}
use Rattle.jr_marks.specs.Places.{IsOrdered}
use Rattle.jr_pullup.specs.Pulling.{IsWithin, raised_below}
use Rattle.jr_pullup.proofs.pulling.draft_raised.Given as goal

abbrev pub invariant-loop-unit : goal.invariant-loop-unit
invariant-loop-unit l = IsOrdered l.marks → IsWithin l.marks.rows.now l.pulled → l.draft ≡ raised_below l.marks l.pulled l.span l.unit
