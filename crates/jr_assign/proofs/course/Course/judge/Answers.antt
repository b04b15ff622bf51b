use Rattle.std.proofs.Common.{sym, ◌∙◌}
use Rattle.jr_assign.proofs.course.Course.judge.Goals as goal

pub returns : goal.returns
returns c = λ table. c.judge_all.ensures (record { table = table; owned = sym c.are_owned.ensures ∙ c.if-not-are_owned.false; guarded = c.requires.guarded })
