use Rattle.jr_kept.specs.Ordered.{Tells}
use Rattle.jr_kept.specs.Returned.{AreFreeTo}
use Rattle.jr_kept.proofs.returning.put_all_pending.Given as goal

abbrev pub invariant-loop-number : goal.invariant-loop-number
invariant-loop-number l = Tells l.fn.lost l.lost (AreFreeTo l.names.rows.now l.names.body l.moved l.points l.number)
