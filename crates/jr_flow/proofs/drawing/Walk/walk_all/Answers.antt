use Rattle.std.proofs.Common.{◌≡◌, arith, subst}
use Rattle.jr_flow.specs.Walked.{HaveSteps, steps_in}
use Rattle.jr_flow.proofs.drawing.Walk.walk_all.Goals as goal

pub loop-place-init : goal.loop-place-init
loop-place-init c = λ g flow are near size h. h

pub loop-place-preserved : goal.loop-place-preserved
loop-place-preserved c = λ g flow are near size h. c.in_ok-walk_from.ensures g flow are near (omega (arith, size)) (c.loop-place.invariant g flow are near size h)

pub returns : goal.returns
returns c = λ g flow are near size h. let all : c.loop-place.place ≡ c.args.count = omega arith in
    subst (λ k. HaveSteps c.args.states.now g k c.loop-place.self.met (steps_in c.loop-place.self)) all (c.loop-place.invariant g flow are near size h)
