use Rattle.std.proofs.Common.{◌∙◌, ap, filter}
use Rattle.std.proofs.lemmas.Result.{IfOk-weaker}
use Rattle.jr_lookup.specs.Sights.{is_kept_beside}
use Rattle.jr_lookup.proofs.Sighting.{lists_none}
use Rattle.jr_lookup.proofs.Demanding.{beside_some, beside_none, kept_lists}
use Rattle.jr_lookup.proofs.simple.Sight.of_package.Goals as goal

pub returns-in_ok-types-in-Some : goal.returns-in_ok-types-in-Some
returns-in_ok-types-in-Some c = λ t sight. let p = c.args.self.now.world.under.rows.now in let places = c.args.self.now.world.under.places.now in let placed = sight.world.seen.placed in
    IfOk-weaker c.kept_beside.result _ _ (λ found is. kept_lists p places placed c.args.place c.args.name c.args.has_imported _ found.items
    (beside_some p places placed c.args.place c.args.name c.in-Some.number _ c.package.ensures c.in-Some.is c.in_ok-types-in-Some.types.items (c.in_ok-types-in-Some.ensures p places sight.tops))
    (is ∙ ap (filter (is_kept_beside p c.args.place c.args.has_imported)) c.deref.ensures.value)) (c.kept_beside.ensures p placed)

pub returns-in-None : goal.returns-in-None
returns-in-None c = λ t sight. lists_none _ c.new.ensures.items (λ d k. beside_none c.args.self.now.world.under.rows.now c.args.self.now.world.under.places.now sight.world.seen.placed c.args.place c.args.name _ c.package.ensures c.in-None.is d k.beside)
