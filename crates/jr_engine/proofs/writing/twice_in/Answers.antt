use Rattle.jr_engine.proofs.Barring.{either_bars, twice_bars}
use Rattle.jr_engine.proofs.writing.twice_in.Goals as goal

pub returns-in-Ok : goal.returns-in-Ok
returns-in-Ok c = λ texts units small is. twice_bars texts c.args.unit c.path_twice.result c.path_twice.ensures is

pub returns-in-Err : goal.returns-in-Err
returns-in-Err c = λ texts units small is. either_bars texts c.args.program c.args.unit c.in-Err.fault c.twice_or.result c.twice_or.ensures c.in-Err.ensures.err units small is
