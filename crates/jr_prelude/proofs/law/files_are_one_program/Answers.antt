use Rattle.jr_prelude.proofs.Readings as reading
use Rattle.jr_prelude.proofs.law.files_are_one_program.Goals as goal

pub returns : goal.returns
returns c = record { some = reading.files_are_program; one = reading.files_are_one_program }
