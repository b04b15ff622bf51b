use Rattle.std.proofs.Common.{arith}
use Rattle.std.proofs.lemmas.List.{drop_more, drop_all}
use Rattle.jr_member_faults.proofs.Descending.{opening_start, opening_next, opening_end}
use Rattle.jr_member_faults.proofs.descent.open_each.Goals as goal

pub loop-over-init : goal.loop-over-init
loop-over-init c = λ h. opening_start c.args.world.now c.args.at c.args.direct.now _

pub loop-over-preserved : goal.loop-over-preserved
loop-over-preserved c = λ h. opening_next c.args.world.now c.args.at c.args.direct.now _ _ _ _ _ _ (drop_more c.args.direct.now c.loop-over.over-index 0 (omega arith)) (c.loop-over.invariant h) (c.in_ok-open_package.ensures h)

pub returns : goal.returns
returns c = λ h. opening_end c.args.world.now c.args.at c.args.direct.now _ _ _ (drop_all c.loop-over.over-index c.args.direct.now (omega arith)) (c.loop-over.invariant h)
