use Rattle.jr_defs.specs.Program.{rows_of}
use Rattle.jr_rules.proofs.AllRules.{breaks_types_tells}
use Rattle.jr_prelude.proofs.Readings.{programs_begin, programs_formed}
use Rattle.jr_bound.proofs.Ruled.{binding_typable, all_found_tells, keeps_rules_tells}
use Rattle.jr_bound.proofs.law.rules_of_files_are_decided.Goals as goal

pub returns : goal.returns
returns c = record {
  typable = λ found program h t w. binding_typable (rows_of program) (programs_formed found program h) (programs_begin found program h) t w;
  rules = λ found program h t rule n w.
      breaks_types_tells (rows_of program) t (binding_typable (rows_of program) (programs_formed found program h) (programs_begin found program h) t w) rule n;
  found = all_found_tells;
  kept = λ found program h. keeps_rules_tells (rows_of program) (programs_formed found program h) (programs_begin found program h);
}
