use Rattle.jr_flow.proofs.Walking.{drawn_sorted}
use Rattle.jr_flow.proofs.drawing.steps_of.Goals as goal

pub returns : goal.returns
returns c = λ g flow. drawn_sorted c.args.states.now g c.in_ok-steps.steps.items c.sort_steps.new.steps.items c.sort_steps.ensures (c.in_ok-steps.ensures g flow)
