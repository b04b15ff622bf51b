use Rattle.std.proofs.Common.{refl}
use Rattle.jr_tree.specs.declared.label.NameKind.TheVariants as names
use Rattle.jr_defs.specs.declared.referent.Referent.TheVariants.{Unbound, Package}
use Rattle.jr_lookup.proofs.Referring.{Simple, answer_all, answer_none, all_variables, all_types, all_packages, no_simple, simple_by}
use Rattle.jr_lookup.proofs.simple.Sight.simple.Goals as goal

pub returns-in_ok-found-in-Variable : goal.returns-in_ok-found-in-Variable
returns-in_ok-found-in-Variable c = λ t x sight placed lt number. let p = c.args.self.now.world.under.rows.now in simple_by p t x c.args.place names.Variable c.args.kind _ c.in-Variable.is
    (answer_all (Simple p t x c.args.place names.Variable) c.in_ok-found-in-Variable.found.rows.items c.in_ok-found-in-Variable.found.level Unbound _ (all_variables p t x c.args.place c.in_ok-found-in-Variable.found.rows.items c.in_ok-found-in-Variable.found.level (c.in_ok-found-in-Variable.ensures.visible t x sight placed lt number)) c.answer.ensures)

pub returns-in_ok-found-in-Type : goal.returns-in_ok-found-in-Type
returns-in_ok-found-in-Type c = λ t x sight placed lt number. let p = c.args.self.now.world.under.rows.now in simple_by p t x c.args.place names.Type c.args.kind _ c.in-Type.is
    (answer_all (Simple p t x c.args.place names.Type) c.in_ok-found-in-Type.found.rows.items c.in_ok-found-in-Type.found.level Unbound _ (all_types p t x c.args.place c.in_ok-found-in-Type.found.rows.items c.in_ok-found-in-Type.found.level (c.in_ok-found-in-Type.ensures t x sight number)) c.answer-in-Type.ensures)

pub returns-in_ok-found-in-PackageOrType : goal.returns-in_ok-found-in-PackageOrType
returns-in_ok-found-in-PackageOrType c = λ t x sight placed lt number. let p = c.args.self.now.world.under.rows.now in simple_by p t x c.args.place names.PackageOrType c.args.kind _ c.in-PackageOrType.is
    (answer_all (Simple p t x c.args.place names.PackageOrType) c.in_ok-found-in-PackageOrType.found.rows.items c.in_ok-found-in-PackageOrType.found.level Package _ (all_packages p t x c.args.place c.in_ok-found-in-PackageOrType.found.rows.items c.in_ok-found-in-PackageOrType.found.level (c.in_ok-found-in-PackageOrType.ensures t x sight number)) c.answer-in-PackageOrType.ensures)

pub returns-in_ok-found-in-Ambiguous : goal.returns-in_ok-found-in-Ambiguous
returns-in_ok-found-in-Ambiguous c = λ t x sight placed lt number. let p = c.args.self.now.world.under.rows.now in simple_by p t x c.args.place names.Ambiguous c.args.kind _ c.in-Ambiguous.is
    (answer_all (Simple p t x c.args.place names.Ambiguous) c.in_ok-found-in-Ambiguous.found.rows.items c.in_ok-found-in-Ambiguous.found.level Package _ ((c.in_ok-found-in-Ambiguous.ensures t x sight placed lt number)) c.answer-in-Ambiguous.ensures)

pub returns-in-Package : goal.returns-in-Package
returns-in-Package c = λ t x sight placed lt number. let p = c.args.self.now.world.under.rows.now in simple_by p t x c.args.place names.Package c.args.kind _ c.in-Package.is
    (answer_none (Simple p t x c.args.place names.Package) Unbound _ (no_simple p t x c.args.place) refl)
