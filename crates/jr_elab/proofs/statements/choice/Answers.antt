use Rattle.std.proofs.lemmas.Result.{on_ok_weaker}
use Rattle.jr_elab.proofs.Chosen.{choice_becomes}
use Rattle.jr_elab.proofs.statements.choice.Goals as goal

pub returns : goal.returns
returns c = on_ok_weaker c.push.result (choice_becomes _ c.second-second.ensures c.end-third.ensures c.end_of-end.ensures.ends c.end_of-end.ensures.fits c.row_before.ensures c.in_ok-cond.ensures c.in_ok-yes.ensures c.in_ok-no.ensures) c.push.ensures
