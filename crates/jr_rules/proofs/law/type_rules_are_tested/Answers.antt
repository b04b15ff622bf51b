use Rattle.jr_rules.proofs.AllRules.{breaks_types_tells}
use Rattle.jr_rules.proofs.Bounded.{breaking_row}
use Rattle.jr_rules.proofs.law.type_rules_are_tested.Goals as goal

pub returns : goal.returns
returns c = record {
  rules = λ p t rule n typable. breaks_types_tells p t typable rule n;
  bounded = λ p t rule n past h. breaking_row p t past rule n h;
}
