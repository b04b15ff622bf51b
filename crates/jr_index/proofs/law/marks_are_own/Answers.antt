use Rattle.jr_index.proofs.OwnUnits as units
use Rattle.jr_index.proofs.law.marks_are_own.Goals as goal

pub returns : goal.returns
returns c = units.marks_own
