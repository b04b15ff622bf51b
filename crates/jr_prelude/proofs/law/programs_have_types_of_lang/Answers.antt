use Rattle.jr_defs.specs.Program.{rows_of}
use Rattle.jr_prelude.proofs.Begun.{types, once, one_object, object_bare, one_string}
use Rattle.jr_prelude.proofs.Readings.{programs_begin}
use Rattle.jr_prelude.proofs.law.programs_have_types_of_lang.Goals as goal

pub returns : goal.returns
returns c = record {
  types = λ found program h. types (rows_of program) (programs_begin found program h);
  once = λ found program h. once (rows_of program) (programs_begin found program h);
  object = λ found program h. one_object (rows_of program) (programs_begin found program h);
  bare = λ found program h. object_bare (rows_of program) (programs_begin found program h);
  string = λ found program h. one_string (rows_of program) (programs_begin found program h);
}
