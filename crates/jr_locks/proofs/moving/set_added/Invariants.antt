use Rattle.jr_locks.specs.Copies.{KeepsOthers}
use Rattle.jr_locks.proofs.moving.set_added.Given as goal

abbrev pub invariant-loop-one : goal.invariant-loop-one
invariant-loop-one l = KeepsOthers l.added l.fn.all l.all
