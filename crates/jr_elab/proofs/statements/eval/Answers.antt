use Rattle.std.proofs.lemmas.Result.{on_ok_weaker}
use Rattle.jr_core.specs.declared.code.Code.TheVariants as v
use Rattle.jr_codes.specs.Making.{code}
use Rattle.jr_expressions.proofs.Standing.{one_becomes}
use Rattle.jr_elab.proofs.statements.eval.Goals as goal

pub returns : goal.returns
returns c = on_ok_weaker c.push.result (one_becomes (λ m a. code (v.Eval a)) c.in_ok-value.ensures) c.push.ensures
