use Rattle.std.proofs.Common.{sym, ◌∙◌}
use Rattle.jr_flow.specs.Walked.{steps_in}
use Rattle.jr_flow.proofs.Walking.{walked_none}
use Rattle.jr_flow.proofs.drawing.Walk.walk_from.Goals as goal

pub returns-in-Some : goal.returns-in-Some
returns-in-Some c = λ g flow are near inside h. c.walk_both.ensures g flow are near inside (sym c.point.ensures ∙ c.in-Some.is) h

pub returns-in-None : goal.returns-in-None
returns-in-None c = λ g flow are near inside h. walked_none c.args.states.now g c.args.place c.args.self.now.met (steps_in c.args.self.now) (sym c.point.ensures ∙ c.in-None.is) h
