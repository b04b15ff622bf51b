use Rattle.jr_all_rules.proofs.Together.{breaks_all_tells, breaking_row, keeps_all_tells}
use Rattle.jr_all_rules.proofs.law.all_rules_are_tested.Goals as goal

pub returns : goal.returns
returns c = record {
  rules = breaks_all_tells;
  bounded = λ p t rule n formed past h. breaking_row p t formed past rule n h;
  kept = λ p t formed typable past. keeps_all_tells p t formed past typable;
}
