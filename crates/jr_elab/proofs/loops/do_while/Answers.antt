use Rattle.std.proofs.lemmas.Result.{on_ok_weaker}
use Rattle.jr_core.specs.declared.code.Code.TheVariants as v
use Rattle.jr_codes.specs.Making.{code}
use Rattle.jr_expressions.proofs.Standing.{two_become}
use Rattle.jr_elab.proofs.loops.do_while.Goals as goal

pub returns : goal.returns
returns c = on_ok_weaker c.push.result (two_become (λ m a k b. code (v.Do a b)) c.in_ok-body.ensures c.in_ok-cond.ensures) c.push.ensures
