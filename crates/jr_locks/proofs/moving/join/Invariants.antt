use Rattle.jr_locks.specs.Copies.{AreJoined}
use Rattle.jr_locks.proofs.moving.join.Given as goal

abbrev pub invariant-loop-at : goal.invariant-loop-at
invariant-loop-at l = AreJoined l.fn.all l.later l.all l.at
