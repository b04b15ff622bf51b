use Rattle.jr_rule.specs.declared.Rule.TheVariants as rule
use Rattle.jr_member_rules.specs.Computed.{values}
use Rattle.jr_faults.proofs.Told.{told_at}
use Rattle.jr_member_faults.specs.Views.{rows_in, table_in}
use Rattle.jr_member_faults.proofs.faults.static_fault.Goals as goal

pub returns-clause-found : goal.returns-clause-found
returns-clause-found c = λ valued. told_at rule.InnerStatics c.args.at
    (c.is_static_there-is_broken.ensures (table_in c.args.view.now) (values (rows_in c.args.view.now) (table_in c.args.view.now)) (valued c.args.at)) c.in_ok-rule_if.ensures.found
