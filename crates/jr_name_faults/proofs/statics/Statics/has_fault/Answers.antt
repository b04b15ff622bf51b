use Rattle.std.proofs.Common.{sym, ◌∙◌, ap}
use Rattle.jr_tree.specs.Rows.{label}
use Rattle.jr_tree.specs.declared.label.ImportKind.TheVariants as importing
use Rattle.jr_plain.specs.Imports.{is_import_label}
use Rattle.jr_name_faults.specs.Imports.{rows_of, table_of}
use Rattle.jr_name_faults.proofs.Bringing.{no_fault}
use Rattle.jr_name_faults.proofs.statics.Statics.has_fault.Goals as goal

pub returns-then-not-is_static_single : goal.returns-then-not-is_static_single
returns-then-not-is_static_single c = λ world h. no_fault (rows_of world) (table_of world) c.args.at h.tabled.right.seen.placed.local
    (ap (λ w. is_import_label importing.StaticSingle (label (rows_of w) c.args.at)) (sym h.world_is) ∙ sym c.is_static_single.ensures ∙ c.if-not-is_static_single.true)

pub returns : goal.returns
returns c = λ world h. c.is_fault_with.ensures world h
    (ap (λ w. is_import_label importing.StaticSingle (label (rows_of w) c.args.at)) (sym h.world_is) ∙ sym c.is_static_single.ensures ∙ c.if-not-is_static_single.false) c.new-members.ensures.items
