use Rattle.jr_lookup.proofs.Leveling.{around_some, around_none}
use Rattle.jr_lookup.proofs.simple.Sight.members_around.Goals as goal

pub returns-in_ok-rows-in-Some : goal.returns-in_ok-rows-in-Some
returns-in_ok-rows-in-Some c = λ t world. around_some c.args.self.now.world.under.rows.now t c.args.kind c.args.place c.args.name c.in_ok-found.found (c.in_ok-found.ensures t world) c.in-Some.over _ _ c.in-Some.is (c.in_ok-rows-in-Some.ensures t world) c.level_of-level.ensures

pub returns-in-None : goal.returns-in-None
returns-in-None c = λ t world. around_none c.args.self.now.world.under.rows.now t c.args.kind c.args.place c.args.name c.in_ok-found.found (c.in_ok-found.ensures t world) _ _ c.in-None.is c.none.ensures.rows c.none.ensures.level
