use Rattle.std.proofs.Common.{sym, ◌∙◌}
use Rattle.jr_plain.specs.Types.{parameters}
use Rattle.jr_member_faults.proofs.Constructed.{none_numbered}
use Rattle.jr_member_faults.proofs.twice.number_parameters.Goals as goal

pub returns-in_default : goal.returns-in_default
returns-in_default c = λ p t signed callable counted. none_numbered (parameters p t c.args.at) (sym c.in_default.is ∙ c.count.ensures p t signed callable) counted

pub returns : goal.returns
returns c = λ p t signed callable counted. c.in_ok-number.ensures p t signed callable counted (sym c.in-Some.is ∙ c.count.ensures p t signed callable)
