use Rattle.std.proofs.Common.{ℕ}
use Rattle.jr_flow_defs.specs.Paths.{Flow}
use Rattle.jr_flow_defs.specs.Graphs.{StepList}
use Rattle.jr_flow.specs.Walked.{IsSource, IsWalkingOn, steps_in}
use Rattle.jr_flow.proofs.drawing.Walk.finish.Given as goal

abbrev pub invariant-loop-turn : goal.invariant-loop-turn
invariant-loop-turn l = (g : Flow ℕ) (old : StepList) → IsSource l.states g l.ends l.of → IsWalkingOn l.states g l.ends l.of old l.fn.self.met l.fn.self.frontier.items (steps_in l.fn.self) → IsWalkingOn l.states g l.ends l.of old l.self.met l.self.frontier.items (steps_in l.self)
