use Rattle.std.proofs.lemmas.Result.{on_ok_weaker}
use Rattle.jr_expressions.proofs.Operated.{before_becomes}
use Rattle.jr_expressions.proofs.operators.step_before.Goals as goal

pub returns : goal.returns
returns c = on_ok_weaker c.push.result (before_becomes c.args.op c.in_ok-op.ensures c.in_ok-target.ensures) c.push.ensures
