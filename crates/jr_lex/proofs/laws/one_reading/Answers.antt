use Rattle.jr_lex.proofs.Readings.{lex_one}
use Rattle.jr_lex.proofs.laws.one_reading.Goals as goal

pub returns : goal.returns
returns c = lex_one
