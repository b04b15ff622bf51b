use Rattle.std.proofs.lemmas.Result.{on_ok_weaker}
use Rattle.jr_codes.specs.Reads.{facts}
use Rattle.jr_expressions.proofs.Labels.{same_becomes}
use Rattle.jr_elab.proofs.Made.{other_plain}
use Rattle.jr_elab.proofs.statements.plain_statement.Goals as goal

pub returns-in_default : goal.returns-in_default
returns-in_default c = on_ok_weaker c.add_expression.result (same_becomes (λ parts. other_plain c.args.label.now (facts c.args.source.now) c.args.at parts c.in_default.not-Nest c.in_default.not-Local c.in_default.not-Skip c.in_default.not-If c.in_default.not-Eval c.in_default.not-Labeled c.in_default.not-Throw c.in_default.not-Break c.in_default.not-Continue c.in_default.not-Do c.in_default.not-While c.in_default.not-For)) c.add_expression.ensures
