use Rattle.jr_codes.specs.Reads.{facts}
use Rattle.jr_expressions.proofs.Named.{nothing_becomes}
use Rattle.jr_expressions.proofs.Labels.{other_named}
use Rattle.jr_expressions.proofs.expressions.add_named.Goals as goal

pub returns-in_default : goal.returns-in_default
returns-in_default c = nothing_becomes (λ parts. other_named c.args.label.now (facts c.args.source.now) c.args.at parts c.in_default.not-Name c.in_default.not-Select c.in_default.not-SuperSelect c.in_default.not-This c.in_default.not-Literal c.in_default.not-Call c.in_default.not-New c.in_default.not-ConstructorCall c.in_default.not-ImplicitCall c.in_default.not-NewArray)
