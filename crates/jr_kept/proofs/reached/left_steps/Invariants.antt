use Rattle.std.proofs.Common.{◌≡◌, ◌++◌, drop, map}
use Rattle.jr_flow.specs.Reached.{step_seen}
use Rattle.jr_kept.specs.Pruned.{left_steps}
use Rattle.jr_kept.proofs.reached.left_steps.Given as goal

abbrev pub invariant-loop-step : goal.invariant-loop-step
invariant-loop-step l = map step_seen l.all.items ++ left_steps l.met l.numbers (map step_seen (drop l.step-index l.steps)) ≡ left_steps l.met l.numbers (map step_seen l.steps)
