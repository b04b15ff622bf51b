use Rattle.std.proofs.Common.{sym, ◌∙◌}
use Rattle.jr_flow.proofs.numbering.Numbering.number.Goals as goal

pub returns-in-Some-clause-taken : goal.returns-in-Some-clause-taken
returns-in-Some-clause-taken c = λ body own at. c.take.ensures.taken body c.args.point own at (sym c.own_number.ensures ∙ c.in-Some.is)

pub returns-in-None-clause-taken : goal.returns-in-None-clause-taken
returns-in-None-clause-taken c = λ body own at. c.push.ensures.taken body own (sym c.own_number.ensures ∙ c.in-None.is)
