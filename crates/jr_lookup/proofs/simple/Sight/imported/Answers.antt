use Rattle.std.proofs.lemmas.Result.{IfOk-weaker}
use Rattle.jr_lookup.proofs.Sighting.{static_at, static_nowhere}
use Rattle.jr_lookup.proofs.simple.Sight.imported.Goals as goal

pub returns-in-Some : goal.returns-in-Some
returns-in-Some c = λ t sight. let p = c.args.self.now.world.under.rows.now in let local = sight.world.seen.placed.local in
    IfOk-weaker c.imported_to.result _ _ (λ found h. static_at p local t c.args.kind c.args.place c.args.name c.in-Some.unit _ (c.importing_unit.ensures sight.world.seen.placed) c.in-Some.is found.items h) (c.imported_to.ensures t sight)

pub returns-in-None : goal.returns-in-None
returns-in-None c = λ t sight. static_nowhere c.args.self.now.world.under.rows.now sight.world.seen.placed.local t c.args.kind c.args.place c.args.name _ (c.importing_unit.ensures sight.world.seen.placed) c.in-None.is _ c.new.ensures.items
