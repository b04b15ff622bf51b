use Rattle.jr_engine.proofs.Barring.{program_bars}
use Rattle.jr_engine.proofs.writing.open_units.Goals as goal

pub returns-in-Err : goal.returns-in-Err
returns-in-Err c = λ texts. program_bars texts c.args.program c.in-Err.fault c.not_compiling.result c.not_compiling.ensures c.in-Err.ensures.err
