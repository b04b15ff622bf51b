use Rattle.jr_rule.specs.declared.Rule.TheVariants as rule
use Rattle.jr_faults.proofs.Told.{told_at}
use Rattle.jr_member_faults.proofs.faults.body_fault.Goals as goal

pub returns-clause-found : goal.returns-clause-found
returns-clause-found c = λ few. told_at rule.Bodies c.args.at (c.stands_wrong-is_broken.ensures few) c.in_ok-rule_if.ensures.found
