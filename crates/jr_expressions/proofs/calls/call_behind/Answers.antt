use Rattle.std.proofs.lemmas.Result.{on_ok_weaker}
use Rattle.jr_expressions.proofs.Called.{behind_becomes}
use Rattle.jr_expressions.proofs.calls.call_behind.Goals as goal

pub returns : goal.returns
returns c = on_ok_weaker c.call_on.result (behind_becomes c.args.row _ c.child.ensures c.in_ok-on.ensures) c.call_on.ensures
