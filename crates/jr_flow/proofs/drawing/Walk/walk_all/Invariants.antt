use Rattle.std.proofs.Common.{◌≡◌, ◌<◌, ◌^◌, ℕ, length}
use Rattle.jr_flow_defs.specs.Paths.{Flow}
use Rattle.jr_flow.specs.Located.{states_in}
use Rattle.jr_flow.specs.Walked.{IsFlowOf, AreEnds, HaveSteps, steps_in}
use Rattle.jr_flow.proofs.drawing.Walk.walk_all.Given as goal

abbrev pub invariant-loop-place : goal.invariant-loop-place
invariant-loop-place l = (g : Flow ℕ) → IsFlowOf l.states g → AreEnds l.states g l.ends → length (states_in l.states.locations) < 2 ^ 32 → l.count ≡ length (states_in l.states.locations)
    → HaveSteps l.states g 0 l.fn.self.met (steps_in l.fn.self) → HaveSteps l.states g l.place l.self.met (steps_in l.self)
