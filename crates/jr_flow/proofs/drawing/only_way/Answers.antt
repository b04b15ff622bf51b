use Rattle.std.proofs.Common.{sym, ◌∙◌}
use Rattle.jr_flow.proofs.drawing.only_way.Goals as goal

pub returns-in-None : goal.returns-in-None
returns-in-None c = λ fits g flow lt. c.only_hop.ensures fits g flow lt (sym c.point.ensures ∙ c.in-None.is)
