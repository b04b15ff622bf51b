use Rattle.std.proofs.Common.{sym, ◌∙◌, subst, arith, length, ◌<◌, ◌^◌, ap}
use Rattle.jr_places.specs.Stamps.{IsEmptied}
use Rattle.jr_flow.specs.Located.{states_in}
use Rattle.jr_flow.specs.Walked.{AreEnds, HaveSteps, steps_in}
use Rattle.jr_flow.proofs.Walking.{none_walked, all_walked}
use Rattle.jr_flow.proofs.drawing.steps_found.Goals as goal

pub returns : goal.returns
returns c = λ g flow. let states = c.args.states.now in let size = c.in-Ok.ensures.1 ∙ c.count.ensures in
    let none = none_walked states g c.in_ok-walk.walk.met (steps_in c.in_ok-walk.walk) (subst (IsEmptied c.in_ok-walk.walk.met) c.count-2.ensures c.in_ok-walk.ensures.0) c.in_ok-walk.ensures.1 in
    all_walked states g c.in-Ok.count c.walk_all.new.self.met (steps_in c.walk_all.new.self) size
    (c.in_ok-walk_all.ensures g flow (subst (AreEnds states g) (sym c.deref.ensures.value) (c.in_ok-ends.ensures g flow)) (omega (arith, size)) size none)
