use Rattle.std.specs.FinMap as finite
use Rattle.jr_engine.proofs.Reading.{bars_not_left}
use Rattle.jr_engine.proofs.writing.left_as.Goals as goal

pub returns-in-Err-clause-err : goal.returns-in-Err-clause-err
returns-in-Err-clause-err c = bars_not_left c.args.spelled.asked (finite.entries c.args.files) c.fault_of_files.result c.fault_of_files.ensures
