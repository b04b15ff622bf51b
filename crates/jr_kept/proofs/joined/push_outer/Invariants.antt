use Rattle.std.proofs.Common.{◌≡◌, ◌++◌, drop, map}
use Rattle.jr_flow.specs.Reached.{step_seen}
use Rattle.jr_kept.specs.Spliced.{outside_calls}
use Rattle.jr_kept.proofs.joined.push_outer.Given as goal

abbrev pub invariant-loop-step : goal.invariant-loop-step
invariant-loop-step l = map step_seen l.all.items ++ outside_calls l.points l.call (map step_seen (drop l.step-index l.steps)) ≡ map step_seen l.fn.all.items ++ outside_calls l.points l.call (map step_seen l.steps)
