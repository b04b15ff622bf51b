use Rattle.jr_rules.proofs.Kept.{object_there, condition_boolean, value_fits, result_fits, cast_allowed, variable_changed, throwable_thrown}
use Rattle.jr_rules.proofs.law.kept_rules_hold.Goals as goal

pub returns : goal.returns
returns c = record {
  objects = object_there;
  conditions = condition_boolean;
  values = λ p t n a b typable kept. value_fits p t typable kept n a b;
  results = λ p t n c m a b typable kept. result_fits p t typable kept n c m a b;
  casts = λ p t n a b typable kept. cast_allowed p t typable kept n a b;
  variables = λ p t n typable kept. variable_changed p t typable kept n;
  thrown = λ p t n a typable kept. throwable_thrown p t typable kept n a;
}
