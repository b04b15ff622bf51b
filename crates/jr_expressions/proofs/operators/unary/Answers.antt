use Rattle.std.proofs.lemmas.Result.{on_ok_weaker}
use Rattle.jr_expressions.proofs.Operated.{unary_becomes}
use Rattle.jr_expressions.proofs.operators.unary.Goals as goal

pub returns : goal.returns
returns c = on_ok_weaker c.push.result (unary_becomes c.args.op c.in_ok-op.ensures c.in_ok-value.ensures) c.push.ensures
