use Rattle.std.proofs.lemmas.Result.{on_ok_weaker}
use Rattle.jr_flow.specs.Walked.{steps_in}
use Rattle.jr_flow.proofs.Walking.{walked_both}
use Rattle.jr_flow.proofs.drawing.Walk.walk_both.Goals as goal

pub returns : goal.returns
returns c = λ g flow are near inside at h. let states = c.args.states.now in let ends = c.args.ends.now in
    let plain = c.in_ok-walk.ensures g (record { flow = flow; are = are; near = near; inside = inside; stands = at }) h.counted h.sound in
    on_ok_weaker c.walk-2.result (λ thrown. walked_both states g ends flow are c.args.place c.args.point inside at (steps_in c.args.self.now) (steps_in c.walk.new.self) (steps_in c.walk-2.new.self) c.args.self.now.met c.walk.new.self.met c.walk-2.new.self.met h plain thrown)
    (c.walk-2.ensures g (record { flow = flow; are = are; near = near; inside = inside; stands = at }) plain.counted plain.sound)
