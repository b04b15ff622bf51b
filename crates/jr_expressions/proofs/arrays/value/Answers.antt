use Rattle.std.proofs.lemmas.Result.{on_ok_weaker}
use Rattle.jr_expressions.proofs.Initialized.{value_becomes}
use Rattle.jr_expressions.proofs.arrays.value.Goals as goal

pub returns : goal.returns
returns c = on_ok_weaker c.push_boxed.result (value_becomes c.in_ok-wanted.ensures c.in_ok-value.ensures) c.push_boxed.ensures
