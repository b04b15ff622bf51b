use Rattle.std.proofs.lemmas.Result.{on_ok_weaker}
use Rattle.jr_codes.specs.Reads.{facts}
use Rattle.jr_expressions.proofs.Labels.{other_made, same_becomes}
use Rattle.jr_expressions.proofs.expressions.add_expression.Goals as goal

pub returns-in_default : goal.returns-in_default
returns-in_default c = on_ok_weaker c.add_named.result (same_becomes (λ parts. other_made c.args.label.now (facts c.args.source.now) c.args.at parts c.in_default.not-Paren c.in_default.not-Index c.in_default.not-Value c.in_default.not-List c.in_default.not-IsA c.in_default.not-Unary c.in_default.not-Cast c.in_default.not-PreStep c.in_default.not-PostStep c.in_default.not-Binary c.in_default.not-Conditional c.in_default.not-Assign)) c.add_named.ensures
