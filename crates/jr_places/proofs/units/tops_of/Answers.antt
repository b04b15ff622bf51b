use Rattle.jr_places.proofs.Uniting.{top_more}
use Rattle.jr_places.proofs.units.tops_of.Goals as goal

pub loop-at-preserved : goal.loop-at-preserved
loop-at-preserved c = top_more c.args.rows.now c.loop-at.at _ _ _ _ c.loop-at.invariant c.deref.ensures.value c.top_of-top.ensures c.in_ok-push.ensures.items
