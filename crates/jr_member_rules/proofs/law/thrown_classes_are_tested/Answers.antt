use Rattle.jr_member_rules.proofs.Thrown.{throws_tells, checked_tells, allows_tells}
use Rattle.jr_member_rules.proofs.law.thrown_classes_are_tested.Goals as goal

pub returns : goal.returns
returns c = record {
  throwing = throws_tells;
  checked = λ p t c headed. checked_tells p t headed c;
  allowed = λ p t k c headed. allows_tells p t headed k c;
}
