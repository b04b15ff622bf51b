use Rattle.std.proofs.Common.{ℕ, length}
use Rattle.jr_places.specs.Stamps.{IsStamping, IsEmptied}
use Rattle.jr_kept.specs.Disturbed.{AreLocalsBelow, AreHeld, OnlyHeld}
use Rattle.jr_kept.proofs.dropped.put_held.Given as goal

abbrev pub invariant-loop-number : goal.invariant-loop-number
invariant-loop-number l = (bound : ℕ) → IsEmptied l.fn.set bound → AreLocalsBelow l.points (length l.points) bound
    → IsStamping l.set bound × AreHeld l.range.first l.range.end l.may_throw l.points l.number l.set × OnlyHeld l.range.first l.range.end l.may_throw l.points l.set
