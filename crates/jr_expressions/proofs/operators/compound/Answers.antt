use Rattle.std.proofs.lemmas.Result.{on_ok_weaker}
use Rattle.jr_expressions.proofs.Operated.{compound_becomes}
use Rattle.jr_expressions.proofs.operators.compound.Goals as goal

pub returns : goal.returns
returns c = on_ok_weaker c.push.result (compound_becomes c.args.sign c.in_ok-op.ensures c.in_ok-joined.ensures c.in_ok-target.ensures c.in_ok-value.ensures) c.push.ensures
