use Rattle.std.proofs.Common.{◌∙◌}
use Rattle.jr_lookup.proofs.Instancing.{around_is}
use Rattle.jr_lookup.proofs.Calling.{called_some, called_none}
use Rattle.jr_lookup.proofs.simple.Sight.called_class.Goals as goal

pub returns-in-Some : goal.returns-in-Some
returns-in-Some c = λ t world. let p = c.args.self.now.world.under.rows.now in called_some p t c.args.place c.in-Some.around c.args.which _ _
    (c.around.ensures ∙ around_is p c.args.self.now.world.under.places.now world.seen.placed c.args.place) c.in-Some.is (c.class_by.ensures t world)

pub returns-in-None : goal.returns-in-None
returns-in-None c = λ t world. let p = c.args.self.now.world.under.rows.now in called_none p t c.args.place c.args.which _
    (c.around.ensures ∙ around_is p c.args.self.now.world.under.places.now world.seen.placed c.args.place) c.in-None.is
