use Rattle.std.proofs.Common.{◌≡◌, sym, subst, true, []}
use Rattle.jr_tree.specs.Rows.{label, parent}
use Rattle.jr_tree.specs.declared.label.ImportKind.TheVariants as importing
use Rattle.jr_defs.specs.Imports.{ImportedBy}
use Rattle.jr_plain.specs.Imports.{is_import_label}
use Rattle.jr_plain.specs.Search.{Lists}
use Rattle.jr_name_faults.specs.Imports.{rows_of, table_of, IsTabledWorld}
use Rattle.jr_name_faults.proofs.statics.Statics.is_fault_with.Goals as goal

pub returns : goal.returns
returns c = λ world h static none. let i = c.args.import in
    let listed : Lists c.add_all_imported.new.all.items (ImportedBy (rows_of world) (table_of world) (parent (rows_of world) i) i) = subst
    (λ w. IsTabledWorld w → is_import_label importing.StaticSingle (label (rows_of w) i) ≡ true → c.args.members.now.items ≡ [] → Lists c.add_all_imported.new.all.items (ImportedBy (rows_of w) (table_of w) (parent (rows_of w) i) i)) h.world_is c.in_ok-add_all_imported.ensures h.tabled static none in
    c.is_fault-is_fault.ensures world h static (subst (λ xs. Lists xs (ImportedBy (rows_of world) (table_of world) (parent (rows_of world) i) i)) (sym c.as_slice-some.ensures.value) listed)
