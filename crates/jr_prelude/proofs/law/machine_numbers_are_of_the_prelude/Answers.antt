use Rattle.jr_prelude.proofs.MachineNumbers.{all_listed}
use Rattle.jr_prelude.proofs.Readings.{programs_have_numbers}
use Rattle.jr_prelude.proofs.law.machine_numbers_are_of_the_prelude.Goals as goal

pub returns : goal.returns
returns c = record { listed = all_listed; each = programs_have_numbers }
