use Rattle.std.proofs.Common.{◌≡◌, ◌++◌, drop, map}
use Rattle.jr_flow.specs.Reached.{step_seen}
use Rattle.jr_kept.specs.Spliced.{ends_by}
use Rattle.jr_kept.proofs.joined.ends_of.Given as goal

abbrev pub invariant-loop-step : goal.invariant-loop-step
invariant-loop-step l = l.pairs.items ++ ends_by l.is_throw (map step_seen (drop l.step-index l.steps)) ≡ ends_by l.is_throw (map step_seen l.steps)
