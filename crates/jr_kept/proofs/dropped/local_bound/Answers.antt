use Rattle.std.proofs.Common.{◌≡◌, ◌∙◌, ap, subst, arith, length}
use Rattle.jr_kept.specs.Disturbed.{local_at, AreLocalsBelow}
use Rattle.jr_kept.proofs.Disturbing.{below_more}
use Rattle.jr_kept.proofs.dropped.local_bound.Goals as goal

pub loop-number-init : goal.loop-number-init
loop-number-init c = λ k d lt. absurd (omega (arith, lt))

pub loop-number-preserved : goal.loop-number-preserved
loop-number-preserved c = below_more c.args.points.now c.loop-number.number c.loop-number.bound c.above-bound.result c.local_of.result (c.local_of.ensures ∙ ap local_at c.point_at.ensures) c.above-bound.ensures.kept c.above-bound.ensures.here c.loop-number.invariant

pub returns : goal.returns
returns c = let past = c.loop-number-test.false in let near = c.loop-number.auto.number-end in
    let all : c.loop-number.number ≡ length c.args.points.now = omega (arith, past, near) in
    subst (λ n. AreLocalsBelow c.args.points.now n c.loop-number.bound) all c.loop-number.invariant
