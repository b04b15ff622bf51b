use Rattle.jr_locks.specs.Copies.{AreToldTo}
use Rattle.jr_locks.proofs.moving.tell_copies.Given as goal

abbrev pub invariant-loop-at : goal.invariant-loop-at
invariant-loop-at l = AreToldTo l.origin l.old l.copy l.fn.range l.at
