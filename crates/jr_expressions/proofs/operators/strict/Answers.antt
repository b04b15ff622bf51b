use Rattle.std.proofs.lemmas.Result.{on_ok_weaker}
use Rattle.jr_expressions.proofs.Operated.{strict_becomes}
use Rattle.jr_expressions.proofs.operators.strict.Goals as goal

pub returns : goal.returns
returns c = on_ok_weaker c.push.result (strict_becomes c.args.op c.in_ok-joined.ensures c.in_ok-op.ensures c.in_ok-left.ensures c.in_ok-right.ensures) c.push.ensures
