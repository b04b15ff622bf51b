use Rattle.jr_lookup.proofs.Sighting.{importing_found, importing_none}
use Rattle.jr_lookup.proofs.simple.Sight.importing_unit.Goals as goal

pub returns-in-Some : goal.returns-in-Some
returns-in-Some c = λ placed. importing_found c.args.self.now.world.under.rows.now placed.local c.args.place c.in-Some.top _ _ (c.top.ensures.holds c.args.self.now.world.under.rows.now placed.are placed.local) c.in-Some.is
    (c.unit.ensures.holds c.args.self.now.world.under.rows.now placed.are placed.local)

pub returns-in-None : goal.returns-in-None
returns-in-None c = λ placed. importing_none c.args.self.now.world.under.rows.now placed.local c.args.place _ (c.top.ensures.holds c.args.self.now.world.under.rows.now placed.are placed.local) c.in-None.is
