use Rattle.std.proofs.lemmas.Result.{on_ok_weaker}
use Rattle.jr_core.specs.declared.code.Code.TheVariants as v
use Rattle.jr_codes.specs.Making.{code}
use Rattle.jr_expressions.proofs.Standing.{none_becomes}
use Rattle.jr_elab.proofs.statements.skip.Goals as goal

pub returns : goal.returns
returns c = on_ok_weaker c.push.result (none_becomes (code v.Skip)) c.push.ensures
