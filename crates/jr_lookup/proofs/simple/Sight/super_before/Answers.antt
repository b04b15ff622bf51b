use Rattle.jr_lookup.proofs.Referring.{super_some, super_none}
use Rattle.jr_lookup.proofs.simple.Sight.super_before.Goals as goal

pub returns-in-Some : goal.returns-in-Some
returns-in-Some c = λ t world. let p = c.args.self.now.world.under.rows.now in super_some p t c.args.place c.in-Some.around _ _ (c.instance_round.ensures world.seen.placed) c.in-Some.is (c.superclass.ensures p t world.seen.above)

pub returns-in-None : goal.returns-in-None
returns-in-None c = λ t world. super_none c.args.self.now.world.under.rows.now t c.args.place _ (c.instance_round.ensures world.seen.placed) c.in-None.is
