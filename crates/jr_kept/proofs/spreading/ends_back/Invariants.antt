use Rattle.std.proofs.Common.{◌≡◌, map, take}
use Rattle.jr_kept.specs.Spread.{back_of}
use Rattle.jr_kept.proofs.spreading.ends_back.Given as goal

abbrev pub invariant-loop-step : goal.invariant-loop-step
invariant-loop-step l = l.pairs.items ≡ map back_of (take l.step-index l.graph.steps.items)
