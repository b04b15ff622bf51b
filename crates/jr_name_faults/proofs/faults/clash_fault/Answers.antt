use Rattle.jr_rule.specs.declared.Rule.TheVariants as rule
use Rattle.jr_faults.proofs.Told.{told_at}
use Rattle.jr_name_faults.proofs.faults.clash_fault.Goals as goal

pub returns-clause-found : goal.returns-clause-found
returns-clause-found c = λ p t lt h. told_at rule.ImportNames c.args.at (c.has_import_clash-is_broken.ensures p t lt h) c.in_ok-rule_if.ensures.found
