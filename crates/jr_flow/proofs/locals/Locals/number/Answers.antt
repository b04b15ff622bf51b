use Rattle.std.proofs.Common.{sym, ◌∙◌}
use Rattle.jr_flow.proofs.Weaving.{local_known}
use Rattle.jr_flow.proofs.locals.Locals.number.Goals as goal

pub returns-in-Some : goal.returns-in-Some
returns-in-Some c = λ right. local_known c.args.self.now c.args.self.now c.args.local c.in-Some.known right (sym c.find.ensures ∙ c.in-Some.is)

pub returns-in-None : goal.returns-in-None
returns-in-None c = λ right. c.push.ensures right (sym c.find.ensures ∙ c.in-None.is)
