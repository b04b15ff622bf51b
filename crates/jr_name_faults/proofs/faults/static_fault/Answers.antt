use Rattle.std.proofs.Common.{sym, ◌∙◌, ap}
use Rattle.jr_tree.specs.Rows.{label}
use Rattle.jr_tree.specs.declared.label.ImportKind.TheVariants as importing
use Rattle.jr_plain.specs.Imports.{is_import_label}
use Rattle.jr_rule.specs.declared.Rule.TheVariants as rule
use Rattle.jr_faults.specs.Added.{is_rule}
use Rattle.jr_faults.proofs.Told.{only_kept, told_at}
use Rattle.jr_name_faults.specs.Imports.{rows_of, table_of}
use Rattle.jr_name_faults.proofs.Bringing.{no_fault}
use Rattle.jr_name_faults.proofs.Passing.{not_added}
use Rattle.jr_name_faults.proofs.faults.static_fault.Goals as goal

pub returns-then-not-has_static_import-clause-found : goal.returns-then-not-has_static_import-clause-found
returns-then-not-has_static_import-clause-found c = λ world h. not_added rule.StaticImports c.args.at c.args.out.now.items
    (sym (no_fault (rows_of world) (table_of world) c.args.at h.tabled.right.seen.placed.local
    (ap (λ w. is_import_label importing.StaticSingle (label (rows_of w) c.args.at)) (sym h.world_is) ∙ sym c.has_static_import.ensures ∙ c.if-not-has_static_import.true)))

pub returns-then-not-has_static_import-clause-others : goal.returns-then-not-has_static_import-clause-others
returns-then-not-has_static_import-clause-others c = only_kept (is_rule rule.StaticImports) c.args.out.now.items

pub returns-clause-found : goal.returns-clause-found
returns-clause-found c = λ world h. told_at rule.StaticImports c.args.at (c.in_ok-is_broken.ensures world h) c.in_ok-rule_if.ensures.found
