use Rattle.std.proofs.lemmas.Result.{on_ok_weaker}
use Rattle.jr_expressions.proofs.Initialized.{list_becomes}
use Rattle.jr_expressions.proofs.arrays.list.Goals as goal

pub returns : goal.returns
returns c = on_ok_weaker c.push.result (λ pushed. list_becomes c.in_ok-wanted.ensures c.end.ensures c.in_ok-items.ensures (rw (c.in_ok-ty.ensures, c.new-dims.ensures) at pushed)) c.push.ensures
