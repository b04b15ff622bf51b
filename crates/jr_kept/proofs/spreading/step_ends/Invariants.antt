use Rattle.std.proofs.Common.{◌≡◌, map, take}
use Rattle.jr_kept.specs.Searched.{ends_of}
use Rattle.jr_kept.proofs.spreading.step_ends.Given as goal

abbrev pub invariant-loop-step : goal.invariant-loop-step
invariant-loop-step l = l.pairs.items ≡ map ends_of (take l.step-index l.graph.steps.items)
