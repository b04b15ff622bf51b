use Rattle.std.proofs.Common.{◌≡◌}
use Rattle.jr_marks.specs.Places.{IsOrdered}
use Rattle.jr_delete.specs.Deleting.{left_of}
use Rattle.jr_delete.proofs.without.Given as goal

abbrev pub invariant-loop-unit : goal.invariant-loop-unit
invariant-loop-unit l = IsOrdered l.marks → l.draft ≡ left_of l.marks l.removal.rows l.removal.span l.unit
