use Rattle.std.proofs.Common.{ℕ, drop}
use Rattle.jr_members.specs.Each.{with_each, AreBelow, IsStampedAs, IsPushingEach}
use Rattle.jr_members.proofs.lists.push_each.Given as goal

abbrev pub invariant-loop-at : goal.invariant-loop-at
invariant-loop-at l = (bound : ℕ) → IsStampedAs bound l.fn.stamps l.fn.all.items → AreBelow bound l.some → IsPushingEach bound l.stamps l.all.items (drop l.at-index l.some) (with_each l.fn.all.items l.some)
