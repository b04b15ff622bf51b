use Rattle.std.proofs.lemmas.Result.{on_ok_weaker}
use Rattle.jr_elab.proofs.Stacking.{switch_does}
use Rattle.jr_elab.proofs.jumps.switch.Goals as goal

pub returns : goal.returns
returns c = on_ok_weaker c.push.result (λ pushed labels catches. switch_does labels catches c.first.ensures c.end.ensures c.in_ok-value.ensures c.in_ok-groups.ensures pushed) c.push.ensures
