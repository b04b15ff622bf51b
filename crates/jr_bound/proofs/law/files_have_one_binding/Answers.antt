use Rattle.jr_defs.specs.Program.{rows_of}
use Rattle.jr_prelude.proofs.Readings.{programs_begin, programs_formed}
use Rattle.jr_bound.proofs.Joined.{bound_where_settled, unbound_else, binding_decided, binding_computed}
use Rattle.jr_bound.proofs.law.files_have_one_binding.Goals as goal

pub returns : goal.returns
returns c = record {
  one = λ found program h. bound_where_settled (rows_of program) (programs_formed found program h) (programs_begin found program h);
  none = λ found program h. unbound_else (rows_of program) (programs_formed found program h) (programs_begin found program h);
  decided = λ found program h. binding_decided (rows_of program) (programs_formed found program h) (programs_begin found program h);
  computed = λ found program h. binding_computed (rows_of program) (programs_formed found program h) (programs_begin found program h);
}
