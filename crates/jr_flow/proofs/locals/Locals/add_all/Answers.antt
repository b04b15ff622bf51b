use Rattle.std.proofs.Common.{◌≡◌, ◌∙◌, length, subst, arith}
use Rattle.std.proofs.lemmas.Option.{slice_get-get_or}
use Rattle.jr_flow.specs.Woven.{AreLocals}
use Rattle.jr_flow.proofs.locals.Locals.add_all.Goals as goal

pub loop-number-init : goal.loop-number-init
loop-number-init c = λ h. h

pub loop-number-preserved : goal.loop-number-preserved
loop-number-preserved c = λ h. c.in_ok-add.ensures c.args.points.now _ (slice_get-get_or c.args.points.now c.loop-number.number _ (omega (arith, c.in-Ok.ensures))) (c.loop-number.invariant h)

pub returns : goal.returns
returns c = λ h. let all : c.loop-number.number ≡ length c.args.points.now = omega (arith, c.in-Ok.ensures.1) in subst (λ k. AreLocals c.args.points.now k c.loop-number.self) all (c.loop-number.invariant h)
