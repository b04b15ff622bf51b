use Rattle.std.proofs.Common.{◌≡◌, ◌∙◌, ◌+◌, ◌∷◌, [], ap, length, length-append, arith}
use Rattle.jr_flow.proofs.Shortening.{no_ends, end_pushed}
use Rattle.jr_flow.proofs.drawing.first_ends.Goals as goal

pub loop-place-init : goal.loop-place-init
loop-place-init c = let none : c.new-ends.result.items ≡ [] = search in (ap length none, λ le g flow. no_ends c.args.states.now g c.new-ends.result.items none)

pub loop-place-preserved : goal.loop-place-preserved
loop-place-preserved c = (
  ap length c.in_ok-push.ensures.items ∙ length-append c.loop-place.ends.items (c.first_end.result ∷ []) ∙ ap (λ k. k + 1) c.loop-place.invariant.0,
  λ le g flow. end_pushed c.args.states.now g c.loop-place.ends.items c.push.new.self.items c.loop-place.place c.first_end.result (c.loop-place.invariant.1 le g flow) c.loop-place.invariant.0
      (c.first_end.ensures (omega arith) g flow (omega (arith, le))) c.in_ok-push.ensures.items,
)

pub returns : goal.returns
returns c = λ le g flow. c.loop-place.invariant.1 le g flow
