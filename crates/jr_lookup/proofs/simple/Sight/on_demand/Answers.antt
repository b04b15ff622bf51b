use Rattle.std.proofs.Common.{◌∙◌}
use Rattle.jr_lookup.proofs.Demanding.{demand_imports, demand_lists}
use Rattle.jr_lookup.proofs.simple.Sight.on_demand.Goals as goal

pub returns : goal.returns
returns c = λ t sight. let p = c.args.self.now.world.under.rows.now in let local = sight.world.seen.placed.local in let is = c.deref.ensures.value ∙ c.in_ok-imports.ensures p sight.scopes in
    demand_lists p local t c.args.unit c.args.name _ _ _ is (c.in_ok-all.ensures t sight (demand_imports p local t c.args.unit c.args.name _ is)) (c.in_ok-add_lang.ensures t sight)
