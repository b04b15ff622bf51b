use Rattle.std.specs.FinMap as finite
use Rattle.jr_engine.proofs.Reading.{bars_not_left}
use Rattle.jr_engine.proofs.writing.is_left_as.Goals as goal

pub returns-in-Ok-clause-err : goal.returns-in-Ok-clause-err
returns-in-Ok-clause-err c = c.keeps_meanings.ensures.err (finite.entries c.args.files.now)

pub returns-in-Err-clause-err : goal.returns-in-Err-clause-err
returns-in-Err-clause-err c = bars_not_left c.args.spelled.asked (finite.entries c.args.files.now) c.in-Err.fault (c.in-Err.ensures.bars (finite.entries c.args.files.now))
