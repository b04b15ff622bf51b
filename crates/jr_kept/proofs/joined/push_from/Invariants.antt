use Rattle.std.proofs.Common.{◌≡◌, ◌++◌, drop, map}
use Rattle.jr_flow.specs.Reached.{step_seen}
use Rattle.jr_kept.specs.Spliced.{leading}
use Rattle.jr_kept.proofs.joined.push_from.Given as goal

abbrev pub invariant-loop-to : goal.invariant-loop-to
invariant-loop-to l = map step_seen l.all.items ++ leading l.from l.is_throw (drop l.to-index l.targets) ≡ map step_seen l.fn.all.items ++ leading l.from l.is_throw l.targets
