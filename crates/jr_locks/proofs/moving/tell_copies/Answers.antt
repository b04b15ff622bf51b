use Rattle.std.proofs.Common.{◌+◌, sym, subst, arith}
use Rattle.jr_locks.specs.Copies.{AreToldTo}
use Rattle.jr_locks.proofs.Told.{told_next}
use Rattle.jr_locks.proofs.moving.tell_copies.Goals as goal

pub loop-at-preserved : goal.loop-at-preserved
loop-at-preserved c = subst (λ xs. AreToldTo c.args.origin.now c.args.old xs c.args.range (c.loop-at.at + 1)) (sym c.set_row.ensures)
    (told_next c.args.origin.now c.loop-at.copy c.args.old c.loop-at.at c.args.range c.requires.few (omega arith) c.loop-at-test.true c.loop-at.invariant)
