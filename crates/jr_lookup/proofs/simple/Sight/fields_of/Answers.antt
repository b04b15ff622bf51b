use Rattle.std.proofs.lemmas.Result.{IfOk-weaker}
use Rattle.jr_defs.specs.Constants.{HasConstantForm}
use Rattle.jr_lookup.proofs.Dotted.{fields_some, fields_none}
use Rattle.jr_lookup.proofs.simple.Sight.fields_of.Goals as goal

pub returns-in-Some : goal.returns-in-Some
returns-in-Some c = λ t x o world h v number. let p = c.args.self.now.world.under.rows.now in let places = c.args.self.now.world.under.places.now in
    IfOk-weaker c.named.result _ _ (λ found each. fields_some p t (HasConstantForm p t) o places x c.args.name number c.in-Some.receiver c.receiver.result (c.receiver.ensures t o world h v) c.in-Some.is found.items each) (c.named.ensures t world)

pub returns-in-None : goal.returns-in-None
returns-in-None c = λ t x o world h v number. let p = c.args.self.now.world.under.rows.now in let places = c.args.self.now.world.under.places.now in
    fields_none p t (HasConstantForm p t) o places x c.args.name number c.receiver.result (c.receiver.ensures t o world h v) c.in-None.is _ c.new.ensures.items
