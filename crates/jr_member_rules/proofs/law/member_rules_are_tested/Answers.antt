use Rattle.jr_member_rules.proofs.AllRules.{breaks_members_tells, keeps_members_tells, breaking_row}
use Rattle.jr_member_rules.proofs.law.member_rules_are_tested.Goals as goal

pub returns : goal.returns
returns c = record {
  rules = λ p t rule n typable. breaks_members_tells p t typable rule n;
  kept = keeps_members_tells;
  bounded = λ p t rule n tree h. breaking_row p t tree h;
}
