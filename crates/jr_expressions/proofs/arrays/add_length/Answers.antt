use Rattle.std.proofs.lemmas.Result.{on_ok_weaker}
use Rattle.jr_expressions.proofs.Passed.{adds_length}
use Rattle.jr_expressions.proofs.arrays.add_length.Goals as goal

pub returns : goal.returns
returns c = on_ok_weaker c.add_item.result (adds_length c.in_ok-length.ensures) c.add_item.ensures
