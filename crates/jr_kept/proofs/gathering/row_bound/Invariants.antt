use Rattle.jr_kept.specs.Gathered.{AreBelow}
use Rattle.jr_kept.proofs.gathering.row_bound.Given as goal

abbrev pub invariant-loop-number : goal.invariant-loop-number
invariant-loop-number l = AreBelow l.points l.number l.bound
