use Rattle.std.proofs.Common.{None}
use Rattle.std.proofs.lemmas.Result.{on_ok_weaker}
use Rattle.jr_core.specs.declared.code.Code.TheVariants as v
use Rattle.jr_codes.specs.Making.{code}
use Rattle.jr_expressions.proofs.Standing.{none_becomes}
use Rattle.jr_expressions.proofs.names.static_field.Goals as goal

pub returns : goal.returns
returns c = on_ok_weaker c.push.result (λ pushed. none_becomes (code (v.FieldAt None _)) (rw c.decl-field.ensures at pushed)) c.push.ensures
