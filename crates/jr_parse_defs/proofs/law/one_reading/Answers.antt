use Rattle.jr_parse_defs.proofs.Readings as law
use Rattle.jr_parse_defs.proofs.law.one_reading.Goals as goal

pub returns : goal.returns
returns c = record { units = law.one_reading }
