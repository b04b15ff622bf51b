use Rattle.std.proofs.Common.{Some}
use Rattle.std.proofs.lemmas.Result.{on_ok_weaker}
use Rattle.jr_core.specs.declared.code.Code.TheVariants as v
use Rattle.jr_codes.specs.Making.{code}
use Rattle.jr_expressions.proofs.Standing.{one_becomes}
use Rattle.jr_expressions.proofs.names.field_of.Goals as goal

pub returns : goal.returns
returns c = on_ok_weaker c.push.result (λ pushed. one_becomes (λ m a. code (v.FieldAt (Some a) _)) c.in_ok-boxed.ensures (rw c.decl-field.ensures at pushed)) c.push.ensures
