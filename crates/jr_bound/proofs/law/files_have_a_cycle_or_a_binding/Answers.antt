use Rattle.jr_defs.specs.Program.{rows_of}
use Rattle.jr_headers.proofs.Pairs.{no_cycle_beside}
use Rattle.jr_headers.proofs.Told.{cycle_finds}
use Rattle.jr_prelude.proofs.Readings.{programs_begin, programs_formed}
use Rattle.jr_bound.proofs.Joined.{cycle_or_binding, bound_where_none_found}
use Rattle.jr_bound.proofs.law.files_have_a_cycle_or_a_binding.Goals as goal

pub returns : goal.returns
returns c = record {
  one = λ found program h. cycle_or_binding (rows_of program) (programs_formed found program h) (programs_begin found program h);
  other = λ found program h cycle t w. no_cycle_beside (rows_of program) (programs_formed found program h) t w cycle;
  first = λ found program h. cycle_finds (rows_of program) (programs_formed found program h);
  none = λ found program h. bound_where_none_found (rows_of program) (programs_formed found program h) (programs_begin found program h);
}
