use Rattle.jr_plain.specs.Overriding.{overriding}
use Rattle.jr_plain.proofs.Dispatched.{overrides_tells}
use Rattle.jr_member_rules.proofs.Redefined.{hiding_tells, redefines_tells, open_tells}
use Rattle.jr_member_rules.proofs.law.redefined_methods_are_tested.Goals as goal

pub returns : goal.returns
returns c = record {
  hiding = λ p t m k headed. hiding_tells p t headed m k;
  redefining = λ p t m k headed. redefines_tells p t headed (overriding p t) (overrides_tells p t headed) m k;
  access = open_tells;
}
