use Rattle.std.proofs.lemmas.Result.{on_ok_weaker}
use Rattle.jr_expressions.proofs.Operated.{conditional_becomes}
use Rattle.jr_expressions.proofs.operators.conditional.Goals as goal

pub returns : goal.returns
returns c = on_ok_weaker c.push.result (conditional_becomes c.in_ok-wanted.ensures c.in_ok-cond.ensures c.in_ok-yes.ensures c.in_ok-no.ensures) c.push.ensures
