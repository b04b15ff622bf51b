use Rattle.std.proofs.Common.{sym, subst}
use Rattle.std.proofs.lemmas.Result.{IfOk-weaker}
use Rattle.jr_tree.specs.declared.label.NameKind.TheVariants as names
use Rattle.jr_defs.specs.Constants.{HasConstantForm}
use Rattle.jr_lookup.specs.Behind.{NeedsValue}
use Rattle.jr_lookup.proofs.Qualifying.{behind_fields, behind_types, behind_packages, behind_none, behind_by}
use Rattle.jr_lookup.proofs.simple.Sight.found_behind.Goals as goal

pub returns-in-Variable : goal.returns-in-Variable
returns-in-Variable c = λ t x o sight h v number. let p = c.args.self.now.world.under.rows.now in
    IfOk-weaker c.fields_of.result _ _ (λ found lists. behind_by p t (HasConstantForm p t) x o found.items names.Variable c.args.kind c.in-Variable.is (behind_fields p t (HasConstantForm p t) x o found.items lists)) (c.fields_of.ensures t x o sight.world h (v (subst NeedsValue (sym c.in-Variable.is) tt)) number)

pub returns-in-Type : goal.returns-in-Type
returns-in-Type c = λ t x o sight h v number. let p = c.args.self.now.world.under.rows.now in
    IfOk-weaker c.types_of.result _ _ (λ found lists. behind_by p t (HasConstantForm p t) x o found.items names.Type c.args.kind c.in-Type.is (behind_types p t (HasConstantForm p t) x o found.items lists)) (c.types_of.ensures t x o sight h number)

pub returns-in-PackageOrType : goal.returns-in-PackageOrType
returns-in-PackageOrType c = λ t x o sight h v number. let p = c.args.self.now.world.under.rows.now in
    IfOk-weaker c.types_of-in-PackageOrType.result _ _ (λ found lists. behind_by p t (HasConstantForm p t) x o found.items names.PackageOrType c.args.kind c.in-PackageOrType.is (behind_packages p t (HasConstantForm p t) x o found.items lists)) (c.types_of-in-PackageOrType.ensures t x o sight h number)

pub returns-in-Ambiguous : goal.returns-in-Ambiguous
returns-in-Ambiguous c = λ t x o sight h v number. let p = c.args.self.now.world.under.rows.now in
    IfOk-weaker c.fields_or_types_of.result _ _ (λ found lists. behind_by p t (HasConstantForm p t) x o found.items names.Ambiguous c.args.kind c.in-Ambiguous.is lists) (c.fields_or_types_of.ensures t x o sight h (v (subst NeedsValue (sym c.in-Ambiguous.is) tt)) number)

pub returns-in-Package : goal.returns-in-Package
returns-in-Package c = λ t x o sight h v number. let p = c.args.self.now.world.under.rows.now in
    behind_by p t (HasConstantForm p t) x o _ names.Package c.args.kind c.in-Package.is (behind_none p t (HasConstantForm p t) x o _ c.new.ensures.items)
