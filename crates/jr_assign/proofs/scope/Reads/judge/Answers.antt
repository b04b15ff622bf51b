use Rattle.jr_assign.proofs.Initialized.{noted_more}
use Rattle.jr_assign.proofs.scope.Reads.judge.Goals as goal

pub loop-at-preserved : goal.loop-at-preserved
loop-at-preserved c = λ linked old. noted_more c.args.self linked c.loop-at.at _ _ (c.loop-at.invariant linked old) c.judge_at.ensures
