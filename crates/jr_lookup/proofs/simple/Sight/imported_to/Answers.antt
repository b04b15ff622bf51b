use Rattle.std.proofs.Common.{◌∙◌}
use Rattle.std.proofs.lemmas.Result.{IfOk-weaker}
use Rattle.jr_lookup.proofs.Sighting.{static_imports, static_lists}
use Rattle.jr_lookup.proofs.simple.Sight.imported_to.Goals as goal

pub returns : goal.returns
returns c = λ t sight. let p = c.args.self.now.world.under.rows.now in let local = sight.world.seen.placed.local in
    let is = c.deref.ensures.value ∙ c.in_ok-imports.ensures p sight.scopes in
    IfOk-weaker c.imported_each.result _ _ (λ found h. static_lists p local t c.args.kind c.args.unit c.args.name _ found.items is h)
    (c.imported_each.ensures t sight (static_imports p local t c.args.kind c.args.unit c.args.name _ is))
