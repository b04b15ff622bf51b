use Rattle.std.proofs.Common.{◌≡◌, ◌≤◌, ℕ, length}
use Rattle.jr_flow_defs.specs.Paths.{Flow}
use Rattle.jr_flow.specs.Located.{states_in}
use Rattle.jr_flow.specs.Walked.{IsFlowOf, AreEnds}
use Rattle.jr_flow.proofs.drawing.first_ends.Given as goal

abbrev pub invariant-loop-place : goal.invariant-loop-place
invariant-loop-place l = (length l.ends.items ≡ l.place) × (l.count ≤ length (states_in l.states.locations) → (g : Flow ℕ) → IsFlowOf l.states g → AreEnds l.states g l.ends.items)
