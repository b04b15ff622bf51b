use Rattle.jr_assign.proofs.locals.judge_locals.Goals as goal

pub returns : goal.returns
returns c = λ old. c.in_ok-judge_members.ensures (c.judge.ensures c.are_linked.ensures old)
