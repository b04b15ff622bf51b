use Rattle.jr_rules.specs.Computed.{values, types}
use Rattle.jr_rules.proofs.Known.{values_find, types_find}
use Rattle.jr_rules.proofs.Places.{value_does_not_fit_tells, void_used_tells, array_tells}
use Rattle.jr_rules.proofs.law.places_are_tested.Goals as goal

pub returns : goal.returns
returns c = record {
  values = λ p t n typable. value_does_not_fit_tells p t typable (types p t) (types_find p t typable) (values p t) (values_find p t typable) n;
  voids = λ p t n typable. void_used_tells p t typable (types p t) (types_find p t typable) n;
  arrays = λ p t n typable. array_tells p t typable (types p t) (types_find p t typable) n;
}
