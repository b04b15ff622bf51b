use Rattle.jr_rule.specs.declared.Rule.TheVariants as rule
use Rattle.jr_faults.proofs.Told.{told_at}
use Rattle.jr_member_faults.proofs.faults.supertype_fault.Goals as goal

pub returns-clause-found : goal.returns-clause-found
returns-clause-found c = λ lt h. told_at rule.Supertypes c.args.at (c.has_wrong_supertype-is_broken.ensures lt h) c.in_ok-rule_if.ensures.found
