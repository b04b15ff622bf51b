use Rattle.std.proofs.lemmas.Result.{on_ok_weaker}
use Rattle.jr_core.specs.declared.code.Code.TheVariants as v
use Rattle.jr_codes.specs.Making.{code}
use Rattle.jr_expressions.proofs.Standing.{one_becomes}
use Rattle.jr_elab.proofs.statements.labeled.Goals as goal

pub returns : goal.returns
returns c = on_ok_weaker c.push.result (λ pushed. one_becomes (λ m a. code (v.Labeled _ a)) c.in_ok-body.ensures (rw c.decl-label.ensures at pushed)) c.push.ensures
