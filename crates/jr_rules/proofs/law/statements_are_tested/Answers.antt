use Rattle.jr_rules.specs.Computed.{values, types}
use Rattle.jr_rules.proofs.Known.{values_find, types_find}
use Rattle.jr_rules.proofs.Statements.{not_throwable_tells, not_boolean_tells, return_tells}
use Rattle.jr_rules.proofs.Switches.{switch_does_not_fit_tells, no_target_tells}
use Rattle.jr_rules.proofs.law.statements_are_tested.Goals as goal

pub returns : goal.returns
returns c = record {
  throws = λ p t n typable. not_throwable_tells p t typable (types p t) (types_find p t typable) n;
  conditions = λ p t n typable. not_boolean_tells p t typable (types p t) (types_find p t typable) n;
  switches = λ p t n typable. switch_does_not_fit_tells p t typable (types p t) (types_find p t typable) (values p t) (values_find p t typable) n;
  returning = λ p t n typable. return_tells p t typable (types p t) (types_find p t typable) (values p t) (values_find p t typable) n;
  jumps = no_target_tells;
}
