use Rattle.std.proofs.lemmas.Result.{on_ok_weaker}
use Rattle.jr_elab.proofs.Stacking.{try_does}
use Rattle.jr_elab.proofs.jumps.try_catch.Goals as goal

pub returns : goal.returns
returns c = on_ok_weaker c.push.result (λ pushed labels groups. try_does _ c.args.has_finally labels groups c.in_ok-block.ensures.inside c.end-end.ensures c.in_ok-block.ensures.ends c.in_ok-body.ensures c.in_ok-catches.ensures c.in_ok-last.ensures pushed) c.push.ensures
