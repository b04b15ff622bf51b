use Rattle.jr_kept.specs.Ordered.{Tells}
use Rattle.jr_kept.specs.Returned.{LeadOutTo}
use Rattle.jr_kept.proofs.returning.put_all_steps.Given as goal

abbrev pub invariant-loop-number : goal.invariant-loop-number
invariant-loop-number l = Tells l.fn.lost l.lost (LeadOutTo l.body l.moved l.points l.steps l.number)
