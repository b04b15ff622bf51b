use Rattle.jr_rules.specs.Computed.{values, types}
use Rattle.jr_rules.proofs.Known.{values_find, types_find}
use Rattle.jr_rules.proofs.Operands.{operands_do_not_fit_tells, no_variable_tells, cast_tells, branches_tell}
use Rattle.jr_rules.proofs.law.operands_are_tested.Goals as goal

pub returns : goal.returns
returns c = record {
  operands = λ p t n typable. operands_do_not_fit_tells p t typable (types p t) (types_find p t typable) (values p t) (values_find p t typable) n;
  variables = λ p t n typable. no_variable_tells p t typable n;
  casts = λ p t n typable. cast_tells p t typable (types p t) (types_find p t typable) n;
  branches = λ p t n typable. branches_tell p t typable (types p t) (types_find p t typable) n;
}
