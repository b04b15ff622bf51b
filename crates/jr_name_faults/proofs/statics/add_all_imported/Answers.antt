use Rattle.jr_tree.specs.declared.label.ImportKind.TheVariants as importing
use Rattle.jr_lookup.specs.Sights.{IsImport}
use Rattle.jr_name_faults.specs.Imports.{rows_of, table_of}
use Rattle.jr_name_faults.proofs.Bringing.{import_is, imported_list}
use Rattle.jr_name_faults.proofs.statics.add_all_imported.Goals as goal

pub returns : goal.returns
returns c = λ tabled static none. let p = rows_of c.args.world.now in let own = import_is p importing.StaticSingle c.args.import static in
    let import : IsImport p c.args.import = record { form = importing.StaticSingle; import = own.import } in
    imported_list p (table_of c.args.world.now) c.args.import own _ _ _ _ none (c.in_ok-add_imported.ensures tabled import) (c.in_ok-add_imported-2.ensures tabled import) (c.in_ok-add_imported-3.ensures tabled import)
