use Rattle.std.proofs.Common.{arith, subst}
use Rattle.jr_bind.specs.Late.{AreLateTo}
use Rattle.jr_bind.proofs.Lateness.{late_start, late_next}
use Rattle.jr_bind.proofs.stages.stages_of.Goals as goal

pub loop-at-init : goal.loop-at-init
loop-at-init c = late_start c.args.rows.now _ c.new-stages.ensures.items

pub loop-at-preserved : goal.loop-at-preserved
loop-at-preserved c = late_next c.args.rows.now _ _ c.loop-at.at _ c.loop-at.invariant c.in_ok-push-2.ensures.items (c.stage_of.ensures c.around_of-around.ensures)

pub returns : goal.returns
returns c = subst (AreLateTo c.args.rows.now c.loop-at.stages.items) (omega arith) c.loop-at.invariant
