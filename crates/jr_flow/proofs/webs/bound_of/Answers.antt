use Rattle.std.proofs.Common.{◌≡◌, arith, length}
use Rattle.std.proofs.lemmas.Option.{slice_get-get_or, slice_get_within}
use Rattle.jr_flow.proofs.Woven.{bound_more}
use Rattle.jr_flow.proofs.webs.bound_of.Goals as goal

pub loop-nth-init : goal.loop-nth-init
loop-nth-init c = (omega arith, λ k s lt e. absurd (omega (arith, lt)))

pub loop-nth-preserved : goal.loop-nth-preserved
loop-nth-preserved c = let least = c.loop-nth.invariant.0 in (
  omega (arith, least, c.above.ensures.least, c.above-bound.ensures.least),
  bound_more c.args.steps.now c.loop-nth.bound c.above.result c.above-bound.result c.loop-nth.nth _ (slice_get-get_or c.args.steps.now c.loop-nth.nth _ c.loop-nth-test.true)
      c.above.ensures.least c.above.ensures.inside c.above-bound.ensures.least c.above-bound.ensures.inside c.loop-nth.invariant.1,
)

pub returns : goal.returns
returns c = record { points_are = c.loop-nth.invariant.0; steps_are = λ k s e. c.loop-nth.invariant.1 k s (let lt = slice_get_within c.args.steps.now k s e in omega (arith, lt)) e }
