use Rattle.std.proofs.Common.{◌≡◌}
use Rattle.jr_draft.specs.Ordering.{Placed, placed_below}
use Rattle.jr_draft.proofs.order.order_with.Given as goal

abbrev pub invariant-loop-unit : goal.invariant-loop-unit
invariant-loop-unit l = record { units = l.all.items; is_placed = l.is_placed } ≡ placed_below l.marks l.moved l.path l.unit
