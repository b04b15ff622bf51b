use Rattle.std.proofs.Common.{ℕ}
use Rattle.jr_flow_defs.specs.Paths.{Flow}
use Rattle.jr_flow.specs.declared.states.States.{States}
use Rattle.jr_flow.specs.Walked.{AreEnds}
use Rattle.jr_flow.proofs.drawing.shorten.Given as goal

abbrev pub invariant-loop-place : goal.invariant-loop-place
invariant-loop-place l = (states : States) (g : Flow ℕ) → AreEnds states g l.fn.ends.items → AreEnds states g l.ends.items
