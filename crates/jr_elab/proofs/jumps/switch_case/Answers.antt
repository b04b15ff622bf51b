use Rattle.std.proofs.lemmas.Result.{on_ok_weaker}
use Rattle.jr_elab.proofs.Stacking.{case_does}
use Rattle.jr_elab.proofs.jumps.switch_case.Goals as goal

pub returns : goal.returns
returns c = on_ok_weaker c.push.result (λ pushed groups catches. case_does groups catches c.first-expression.ensures c.in_ok-boxed.ensures c.in_ok-label.ensures pushed) c.push.ensures
