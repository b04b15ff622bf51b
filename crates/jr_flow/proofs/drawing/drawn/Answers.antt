use Rattle.std.proofs.Common.{sym, ◌∙◌, refl, subst, map}
use Rattle.jr_flow_defs.specs.Edges.{IsGraph, body_flow}
use Rattle.jr_flow.specs.Reached.{step_seen}
use Rattle.jr_flow.proofs.Drawn.{g, flow_read, steps_drawn, graph_drawn}
use Rattle.jr_flow.proofs.drawing.drawn.Goals as goal

pub returns : goal.returns
returns c = λ p m h. let states = c.args.states.now in let body = c.args.body in let steps = map step_seen c.in_ok-steps.steps.items in
    let drawn = c.in_ok-steps.ensures (g p m body states h) (flow_read p m body states h) in (
      refl,
      subst (λ xs. IsGraph (body_flow p m body) body xs steps) (sym (c.in_ok-points.ensures.items_if_clones_equal (λ x y e. e) ∙ c.points.ensures))
          (graph_drawn p m body states h steps (steps_drawn p m body states h steps drawn.sound (λ i k t lt at b n s e. drawn.every i k n b t lt at s e))),
    )
