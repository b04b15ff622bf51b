use Rattle.std.proofs.lemmas.Result.{on_ok_weaker}
use Rattle.jr_elab.proofs.Stacking.{group_does}
use Rattle.jr_elab.proofs.jumps.group.Goals as goal

pub returns : goal.returns
returns c = on_ok_weaker c.push.result (λ pushed catches. group_does catches c.end-end.ensures c.in_ok-labels.ensures c.in_ok-stmts.ensures pushed) c.push.ensures
