use Rattle.std.proofs.lemmas.Result.{on_ok_weaker}
use Rattle.jr_elab.proofs.Looped.{for_becomes}
use Rattle.jr_elab.proofs.loops.for_loop.Goals as goal

pub returns : goal.returns
returns c = on_ok_weaker c.push.result (for_becomes _ c.args.has_first c.args.has_condition c.first-child.ensures c.end_of-end.ensures.ends c.end_of-end.ensures.fits c.behind-condition.ensures c.behind-updates.ensures c.last_from-last.ensures c.in_ok-first.ensures c.in_ok-cond.ensures c.in_ok-update.ensures c.in_ok-body.ensures) c.push.ensures
