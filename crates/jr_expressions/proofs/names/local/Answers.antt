use Rattle.std.proofs.lemmas.Result.{on_ok_weaker}
use Rattle.jr_core.specs.declared.code.Code.TheVariants as v
use Rattle.jr_codes.specs.Making.{code}
use Rattle.jr_expressions.proofs.Standing.{none_becomes}
use Rattle.jr_expressions.proofs.names.local.Goals as goal

pub returns : goal.returns
returns c = on_ok_weaker c.push.result (λ pushed. none_becomes (code (v.Var _)) (rw c.decl-local.ensures at pushed)) c.push.ensures
