use Rattle.std.proofs.Common.{length, subst}
use Rattle.jr_places.specs.Stamps.{AddsStamp}
use Rattle.jr_flow.specs.Located.{states_in}
use Rattle.jr_flow.specs.Walked.{steps_in}
use Rattle.jr_flow.proofs.Walking.{walk_known}
use Rattle.jr_flow.proofs.drawing.Walk.meet.Goals as goal

pub returns-then-add : goal.returns-then-add
returns-then-add c = λ g old source walking. let bound = length (states_in c.args.states.now.locations) in
    c.pass.ensures g old c.args.self.now.met source walking (subst (AddsStamp c.args.self.now.met c.add.new.self bound c.args.to) c.if-add.true (c.add.ensures bound walking.counted))

pub returns : goal.returns
returns c = λ g old source walking. let states = c.args.states.now in let ends = c.args.ends.now in let of = c.args.of in let bound = length (states_in states.locations) in
    walk_known states g ends source.flow source.are of.place of.point of.is_throw source.inside source.stands old c.args.self.now.met c.add.new.self c.args.self.now.frontier.items c.args.to (steps_in c.args.self.now) walking
    (subst (AddsStamp c.args.self.now.met c.add.new.self bound c.args.to) c.if-add.false (c.add.ensures bound walking.counted))
