use Rattle.jr_rule.specs.declared.Rule.TheVariants as rule
use Rattle.jr_faults.proofs.Told.{told_at}
use Rattle.jr_name_faults.proofs.faults.name_fault.Goals as goal

pub returns-clause-found : goal.returns-clause-found
returns-clause-found c = λ p lt h. told_at rule.LocalNames c.args.at (c.is_second_local-is_broken.ensures p lt h) c.in_ok-rule_if.ensures.found
