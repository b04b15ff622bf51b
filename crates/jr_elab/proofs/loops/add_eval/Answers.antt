use Rattle.std.proofs.lemmas.Result.{on_ok_weaker}
use Rattle.jr_elab.proofs.loops.add_eval.Goals as goal

pub returns : goal.returns
returns c = on_ok_weaker c.add_item.result (λ added. record { value = _; was = c.in_ok-value.ensures; adds = rw c.in_ok-code.ensures at added }) c.add_item.ensures
