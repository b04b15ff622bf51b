use Rattle.jr_name_rules.proofs.AllRules.{breaks_tells, others_tell}
use Rattle.jr_name_rules.proofs.Bounded.{broken_in_formed, broken_in_local}
use Rattle.jr_name_rules.proofs.law.name_rules_are_tested.Goals as goal

pub returns : goal.returns
returns c = record { rules = breaks_tells; others = others_tell; bounded = broken_in_formed; bounded_local = broken_in_local }
