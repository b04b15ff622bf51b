use Rattle.jr_member_rules.proofs.Inherited.{implemented_tells, inherits_both_tells}
use Rattle.jr_member_rules.proofs.law.inherited_methods_are_tested.Goals as goal

pub returns : goal.returns
returns c = record {
  implemented = λ p t c m headed. implemented_tells p t headed c m;
  inherited = λ p t c m k headed. inherits_both_tells p t headed c m k;
}
