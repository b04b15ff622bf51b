use Rattle.jr_front.proofs.front.judge_table.Goals as goal

pub returns-in-Some-clause-err : goal.returns-in-Some-clause-err
returns-in-Some-clause-err c = λ ordered. c.in-Some.ensures.first ordered
