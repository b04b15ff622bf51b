use Rattle.std.proofs.lemmas.Result.{on_ok_weaker}
use Rattle.jr_expressions.proofs.Operated.{plain_becomes}
use Rattle.jr_expressions.proofs.operators.plain.Goals as goal

pub returns : goal.returns
returns c = on_ok_weaker c.push.result (plain_becomes c.in_ok-wanted.ensures c.in_ok-target.ensures c.in_ok-value.ensures) c.push.ensures
