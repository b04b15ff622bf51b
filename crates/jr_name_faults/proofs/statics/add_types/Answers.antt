use Rattle.std.proofs.Common.{sym, ◌∙◌}
use Rattle.std.proofs.lemmas.Result.{on_ok_weaker}
use Rattle.jr_tree.specs.declared.label.ImportKind.TheVariants as importing
use Rattle.jr_name_faults.specs.Imports.{rows_of, table_of}
use Rattle.jr_name_faults.proofs.Bringing.{import_is, adds_types, adds_found, adds_no}
use Rattle.jr_name_faults.proofs.statics.add_types.Goals as goal

pub returns-then-is_static_single : goal.returns-then-is_static_single
returns-then-is_static_single c = λ tabled. let p = rows_of c.args.world.now in let own = import_is p importing.StaticSingle c.args.at (sym c.is_static_single.ensures ∙ c.if-is_static_single.true) in
    on_ok_weaker c.add_imported.result (λ h. adds_types p (table_of c.args.world.now) c.args.at own h) (c.add_imported.ensures tabled (record { form = importing.StaticSingle; import = own.import }))

pub returns-in-Some : goal.returns-in-Some
returns-in-Some c = λ tabled. on_ok_weaker c.push_if.result
    (λ is. adds_found c.args.all.now.items _ c.one_type.result c.in-Some.class (c.one_type.ensures tabled (sym c.is_static_single.ensures ∙ c.if-is_static_single.false)) c.in-Some.is is) c.push_if.ensures

pub returns-in-None : goal.returns-in-None
returns-in-None c = λ tabled. adds_no c.args.all.now.items c.one_type.result (c.one_type.ensures tabled (sym c.is_static_single.ensures ∙ c.if-is_static_single.false)) c.in-None.is
