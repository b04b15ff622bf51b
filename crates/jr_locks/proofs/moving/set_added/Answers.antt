use Rattle.jr_locks.proofs.Locked.{keeps_at}
use Rattle.jr_locks.proofs.moving.set_added.Goals as goal

pub loop-one-preserved : goal.loop-one-preserved
loop-one-preserved c = keeps_at c.args.added.now c.loop-one.one-index _ c.args.all.now c.loop-one.all c.set_lock.new.all _ c.loop-one-test.true c.loop-one.invariant c.set_lock.ensures
