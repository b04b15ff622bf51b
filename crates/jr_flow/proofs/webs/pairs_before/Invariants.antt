use Rattle.std.proofs.Common.{◌≡◌, map, take}
use Rattle.jr_flow.specs.Woven.{pair_before}
use Rattle.jr_flow.proofs.webs.pairs_before.Given as goal

abbrev pub invariant-loop-nth : goal.invariant-loop-nth
invariant-loop-nth l = l.pairs.items ≡ map pair_before (take l.nth l.steps)
