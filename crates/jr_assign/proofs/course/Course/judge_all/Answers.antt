use Rattle.std.proofs.Common.{arith}
use Rattle.jr_assign.proofs.Judging.{judged_more}
use Rattle.jr_assign.proofs.course.Course.judge_all.Goals as goal

pub loop-inside-preserved : goal.loop-inside-preserved
loop-inside-preserved c = λ sure old. let room = c.size-inside-end.ensures.is in judged_more c.args.self c.args.start c.args.round.owners.now c.args.round.members.now sure _ (omega arith) (omega arith) _ _ (c.loop-inside.invariant sure old) c.judge_at.ensures
