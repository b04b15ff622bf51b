use Rattle.std.proofs.Common.{◌≡◌}
use Rattle.jr_marks.specs.Places.{IsOrdered}
use Rattle.jr_package.specs.Repackaging.{Merged, merged_below}
use Rattle.jr_package.proofs.moving.Moving.order.Given as goal

abbrev pub invariant-loop-unit : goal.invariant-loop-unit
invariant-loop-unit l = IsOrdered l.self.named.now.marks.now
    → record { units = l.units.items; left = l.left } ≡ merged_below l.self.named.now.marks.now l.self.folder.now l.self.named.now.from.now l.moved l.unit
