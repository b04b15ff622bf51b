use Rattle.std.proofs.Common.{subst, IfSome}
use Rattle.jr_flow.specs.Walked.{IsEnd}
use Rattle.jr_flow.proofs.Shortening.{stays}
use Rattle.jr_flow.proofs.drawing.first_end.Goals as goal

pub returns-in-Some : goal.returns-in-Some
returns-in-Some c = λ fits g flow lt. c.in-Some.ensures fits g flow lt

pub returns-in-None : goal.returns-in-None
returns-in-None c = λ fits g flow lt. record { leads = stays g c.args.place; inside = lt }
