use Rattle.jr_engine.proofs.Reading.{retyped_not_left}
use Rattle.jr_engine.proofs.writing.keeps_meanings.Goals as goal

pub returns-in-Err-clause-err : goal.returns-in-Err-clause-err
returns-in-Err-clause-err c = λ texts. retyped_not_left c.args.spelled.asked texts c.in-Err.fault c.in-Err.ensures
