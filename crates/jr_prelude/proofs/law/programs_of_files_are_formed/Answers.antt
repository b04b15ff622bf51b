use Rattle.jr_prelude.proofs.Readings.{programs_formed}
use Rattle.jr_prelude.proofs.law.programs_of_files_are_formed.Goals as goal

pub returns : goal.returns
returns c found program h = programs_formed found program h
