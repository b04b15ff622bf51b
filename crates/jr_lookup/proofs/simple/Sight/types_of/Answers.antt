use Rattle.std.proofs.Common.{◌+◌}
use Rattle.std.proofs.lemmas.Result.{IfOk-weaker}
use Rattle.jr_defs.specs.Constants.{HasConstantForm}
use Rattle.jr_lookup.proofs.Dotted.{type_before, package_before, neither_before, types_member, types_top, types_none}
use Rattle.jr_lookup.proofs.simple.Sight.types_of.Goals as goal

pub returns-in-OfType : goal.returns-in-OfType
returns-in-OfType c = λ t x o sight h number. let p = c.args.self.now.world.under.rows.now in let places = c.args.self.now.world.under.places.now in let K = HasConstantForm p t in
    let b = type_before p t K o places h c.in-OfType.over c.in-OfType.is in
    IfOk-weaker c.named.result _ _ (λ found each. types_member p t K o places x c.args.name number c.in-OfType.over found.items b.0 b.1 each) (c.named.ensures t sight.world)

pub returns-in-Package : goal.returns-in-Package
returns-in-Package c = λ t x o sight h number. let p = c.args.self.now.world.under.rows.now in let places = c.args.self.now.world.under.places.now in let K = HasConstantForm p t in
    let b = package_before p t K o places h c.in-Package.number c.in-Package.is in
    IfOk-weaker c.types_numbered.result _ _ (λ found lists. types_top p t K o places x c.args.name number found.items b.1 b.0 lists) (c.types_numbered.ensures t (o + 1) sight b.2)

pub returns-in_default : goal.returns-in_default
returns-in_default c = λ t x o sight h number. let p = c.args.self.now.world.under.rows.now in let places = c.args.self.now.world.under.places.now in let K = HasConstantForm p t in
    let b = neither_before p t K o places h c.in_default.not-OfType c.in_default.not-Package in types_none p t K o places x c.args.name number b.0 b.1 _ c.new.ensures.items
