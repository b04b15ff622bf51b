use Rattle.std.proofs.Common.{sym, ◌∙◌}
use Rattle.jr_rule.specs.declared.Rule.TheVariants as rule
use Rattle.jr_faults.specs.Added.{is_rule}
use Rattle.jr_faults.proofs.Told.{only_kept, told_at}
use Rattle.jr_name_faults.specs.Views.{rows_in, table_in, types_in}
use Rattle.jr_name_faults.proofs.Passing.{not_added, hides_nothing}
use Rattle.jr_name_faults.proofs.faults.access_fault.Goals as goal

pub returns-then-not-is_occurrence-clause-found : goal.returns-then-not-is_occurrence-clause-found
returns-then-not-is_occurrence-clause-found c = λ seen. not_added rule.Access c.args.at c.args.out.now.items
    (hides_nothing (rows_in c.args.view.now) (table_in c.args.view.now) (types_in c.args.view.now) c.args.at (sym c.is_occurrence.ensures ∙ c.if-not-is_occurrence.true))

pub returns-then-not-is_occurrence-clause-others : goal.returns-then-not-is_occurrence-clause-others
returns-then-not-is_occurrence-clause-others c = only_kept (is_rule rule.Access) c.args.out.now.items

pub returns-clause-found : goal.returns-clause-found
returns-clause-found c = λ seen. told_at rule.Access c.args.at (c.is_not_accessible-is_broken.ensures seen) c.in_ok-rule_if.ensures.found
