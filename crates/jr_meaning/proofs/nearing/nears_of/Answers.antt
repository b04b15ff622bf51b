use Rattle.jr_meaning.proofs.Nears.{near_more}
use Rattle.jr_meaning.proofs.nearing.nears_of.Goals as goal

pub loop-at-preserved : goal.loop-at-preserved
loop-at-preserved c = near_more c.args.rows.now c.args.with_switch c.loop-at.at _ _ _ _ c.loop-at.invariant c.deref.ensures.value c.near_of-near.ensures c.in_ok-push.ensures.items
