use Rattle.std.proofs.lemmas.Result.{on_ok_weaker}
use Rattle.jr_expressions.proofs.Initialized.{measured_becomes}
use Rattle.jr_expressions.proofs.arrays.measured.Goals as goal

pub returns : goal.returns
returns c = on_ok_weaker c.push.result (λ pushed. measured_becomes c.in_ok-made.ensures c.end.ensures c.in_ok-dims.ensures (rw c.in_ok-ty.ensures at pushed)) c.push.ensures
