use Rattle.jr_prelude.proofs.Readings.{programs_begin}
use Rattle.jr_prelude.proofs.law.programs_begin_with_lang.Goals as goal

pub returns : goal.returns
returns c found program h = programs_begin found program h
