use Rattle.jr_flow_faults.proofs.Parts.{parts_more, no_parts_yet}
use Rattle.jr_flow_faults.proofs.facts.last_parts.Goals as goal

pub loop-at-preserved : goal.loop-at-preserved
loop-at-preserved c = parts_more c.args.rows.now c.args.kind c.loop-at.at _ _ _ c.loop-at.invariant c.holder.ensures c.put_part.ensures

pub loop-at-init : goal.loop-at-init
loop-at-init c = no_parts_yet c.args.rows.now c.args.kind _ c.in_ok-all.ensures
