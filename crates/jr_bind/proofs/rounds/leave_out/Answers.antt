use Rattle.std.proofs.Common.{◌∙◌, ◌∷◌}
use Rattle.jr_bind.proofs.LeftOut.{taking_start}
use Rattle.jr_bind.proofs.rounds.leave_out.Goals as goal

pub returns : goal.returns
returns c = λ bound left h. c.in_ok-take_edges.ensures c.args.edges.now bound (c.args.at ∷ left) (taking_start c.args.edges.now bound _ left _ _ _ c.args.at (c.deref.ensures.value ∙ c.in_ok-next.ensures) h)
