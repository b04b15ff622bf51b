use Rattle.jr_kept.specs.Disturbed.{AreLocalsBelow}
use Rattle.jr_kept.proofs.dropped.local_bound.Given as goal

abbrev pub invariant-loop-number : goal.invariant-loop-number
invariant-loop-number l = AreLocalsBelow l.points l.number l.bound
