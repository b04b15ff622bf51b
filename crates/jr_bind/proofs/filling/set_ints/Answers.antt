use Rattle.std.proofs.Common.{arith, ◌∙◌, ap, slice_set}
use Rattle.jr_bind.proofs.Constant.{ints_start, ints_next, ints_end}
use Rattle.jr_bind.proofs.filling.set_ints.Goals as goal

pub loop-at-init : goal.loop-at-init
loop-at-init c = ints_start c.args.constants.now c.args.ints.now

pub loop-at-preserved : goal.loop-at-preserved
loop-at-preserved c = ints_next c.args.constants.now c.args.ints.now _ _ c.loop-at.at (omega (arith, c.in-Ok.ensures)) (c.put_int.ensures ∙ ap (slice_set c.loop-at.ints c.loop-at.at) c.int_of.ensures) c.loop-at.invariant

pub returns-clause-each : goal.returns-clause-each
returns-clause-each c = λ few size. ints_end c.args.constants.now c.args.ints.now _ _ (omega (arith, c.in-Ok.ensures)) size c.loop-at.invariant

pub returns-clause-size : goal.returns-clause-size
returns-clause-size c = c.loop-at.invariant.size
