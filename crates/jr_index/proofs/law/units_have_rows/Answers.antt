use Rattle.jr_index.proofs.UnitCount as units
use Rattle.jr_index.proofs.law.units_have_rows.Goals as goal

pub returns : goal.returns
returns c = units.units_have_rows
