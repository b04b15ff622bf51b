use Rattle.std.proofs.Common.{arith}
use Rattle.std.proofs.lemmas.List.{drop_more, drop_all}
use Rattle.jr_member_faults.proofs.Descending.{all_start, all_next, all_end}
use Rattle.jr_member_faults.proofs.descent.open_all.Goals as goal

pub loop-at-init : goal.loop-at-init
loop-at-init c = λ h. all_start c.args.world.now c.order-order.result.now _

pub loop-at-preserved : goal.loop-at-preserved
loop-at-preserved c = λ h. all_next c.args.world.now c.order-order.result.now _ _ _ _ _ (drop_more c.order-order.result.now c.loop-at.at-index 0 (omega arith)) (c.loop-at.invariant h) (c.in_ok-open_above.ensures h)

pub returns : goal.returns
returns c = λ h. all_end c.args.world.now h c.order-order.result.now _ _ c.order-order.ensures (drop_all c.loop-at.at-index c.order-order.result.now (omega arith)) (c.loop-at.invariant h)
