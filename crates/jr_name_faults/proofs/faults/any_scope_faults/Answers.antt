use Rattle.std.proofs.Common.{sym, ◌∙◌, ap}
use Rattle.jr_tree.specs.Rows.{role_at}
use Rattle.jr_rule.specs.declared.Rule.TheVariants as rule
use Rattle.jr_faults.proofs.Told.{only_kept}
use Rattle.jr_name_faults.specs.Faults.{is_of_locals}
use Rattle.jr_name_faults.specs.Locals.{has_scope}
use Rattle.jr_name_faults.proofs.Passing.{not_added, no_second_local, no_second_label, declared_none}
use Rattle.jr_name_faults.proofs.faults.any_scope_faults.Goals as goal

pub returns-then-not-declares-clause-open : goal.returns-then-not-declares-clause-open
returns-then-not-declares-clause-open c = λ p lt h. declared_none c.args.locals.now h lt (sym c.declares.ensures ∙ c.if-not-declares.true)

pub returns-then-not-declares-clause-names : goal.returns-then-not-declares-clause-names
returns-then-not-declares-clause-names c = λ p lt h. not_added rule.LocalNames c.args.at c.args.out.now.items
    (no_second_local p c.args.at (ap (λ q. has_scope (role_at q c.args.at)) (sym h.rows_are) ∙ sym c.declares.ensures ∙ c.if-not-declares.true))

pub returns-then-not-declares-clause-labels : goal.returns-then-not-declares-clause-labels
returns-then-not-declares-clause-labels c = λ p lt h. not_added rule.Labels c.args.at c.args.out.now.items
    (no_second_label p c.args.at (ap (λ q. has_scope (role_at q c.args.at)) (sym h.rows_are) ∙ sym c.declares.ensures ∙ c.if-not-declares.true))

pub returns-then-not-declares-clause-others : goal.returns-then-not-declares-clause-others
returns-then-not-declares-clause-others c = only_kept is_of_locals c.args.out.now.items
