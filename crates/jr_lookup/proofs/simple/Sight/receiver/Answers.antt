use Rattle.std.proofs.Common.{sym, ◌∙◌, subst}
use Rattle.jr_defs.specs.Constants.{HasConstantForm}
use Rattle.jr_defs.specs.Lookup.{Receiver}
use Rattle.jr_plain.specs.Search.{Finds}
use Rattle.jr_lookup.proofs.Dotted.{receiver_found}
use Rattle.jr_lookup.proofs.simple.Sight.receiver.Goals as goal

pub returns : goal.returns
returns c = λ t o world h v. let p = c.args.self.now.world.under.rows.now in let places = c.args.self.now.world.under.places.now in
    subst (λ found. Finds found (λ r. Receiver p t (HasConstantForm p t) o r.class r.ty)) (sym c.receiver_of.ensures)
    (receiver_found p t (HasConstantForm p t) o places h v world.seen.above.well.one c.object.result (c.object.ensures ∙ world.seen.above.object))
