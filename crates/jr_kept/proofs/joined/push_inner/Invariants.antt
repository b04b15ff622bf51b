use Rattle.std.proofs.Common.{◌≡◌, ◌++◌, drop, map}
use Rattle.jr_flow.specs.Reached.{step_seen}
use Rattle.jr_kept.specs.Spliced.{shifted}
use Rattle.jr_kept.proofs.joined.push_inner.Given as goal

abbrev pub invariant-loop-step : goal.invariant-loop-step
invariant-loop-step l = map step_seen l.all.items ++ shifted l.base (map step_seen (drop l.step-index l.steps)) ≡ map step_seen l.fn.all.items ++ shifted l.base (map step_seen l.steps)
