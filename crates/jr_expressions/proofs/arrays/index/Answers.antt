use Rattle.std.proofs.lemmas.Result.{on_ok_weaker}
use Rattle.jr_expressions.proofs.Operated.{index_becomes}
use Rattle.jr_expressions.proofs.arrays.index.Goals as goal

pub returns : goal.returns
returns c = on_ok_weaker c.push.result (index_becomes c.in_ok-array.ensures c.in_ok-place.ensures) c.push.ensures
