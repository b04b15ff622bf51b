use Rattle.jr_reach.proofs.Tables.{one_more}
use Rattle.jr_reach.proofs.table.courses_of.Goals as goal

pub loop-done-preserved : goal.loop-done-preserved
loop-done-preserved c = one_more c.args.rows.now c.args.facts.now c.loop-done.done c.loop-done.all.items _ _ c.in_ok-made.made c.loop-done.invariant c.deref.ensures.value c.in_ok-made.ensures c.in_ok-push.ensures.items
