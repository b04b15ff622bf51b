use Rattle.jr_defs.specs.Program.{rows_of}
use Rattle.jr_defs.proofs.Settling.{one_binding}
use Rattle.jr_prelude.proofs.Readings.{programs_formed}
use Rattle.jr_prelude.proofs.law.one_binding_of_files.Goals as goal

pub returns : goal.returns
returns c found program h t u a b = one_binding (rows_of program) t u (programs_formed found program h) a b
