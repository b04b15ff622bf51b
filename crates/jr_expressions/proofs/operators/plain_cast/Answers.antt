use Rattle.std.proofs.lemmas.Result.{on_ok_weaker}
use Rattle.jr_expressions.proofs.Operated.{plain_cast_becomes}
use Rattle.jr_expressions.proofs.operators.plain_cast.Goals as goal

pub returns : goal.returns
returns c = on_ok_weaker c.push_boxed.result (plain_cast_becomes c.args.to c.in_ok-value.ensures) c.push_boxed.ensures
