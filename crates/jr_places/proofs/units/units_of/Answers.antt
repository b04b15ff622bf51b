use Rattle.jr_places.proofs.Uniting.{unit_more}
use Rattle.jr_places.proofs.units.units_of.Goals as goal

pub loop-at-preserved : goal.loop-at-preserved
loop-at-preserved c = unit_more c.args.rows.now c.loop-at.at _ _ _ _ c.loop-at.invariant c.deref.ensures.value c.unit_of-unit.ensures c.in_ok-push.ensures.items
