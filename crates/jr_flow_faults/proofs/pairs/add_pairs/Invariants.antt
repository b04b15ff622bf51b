use Rattle.std.proofs.Common.{◌≡◌, drop}
use Rattle.jr_supers.specs.Pairs.{with_pairs}
use Rattle.jr_flow_faults.proofs.pairs.add_pairs.Given as goal

abbrev pub invariant-loop-high : goal.invariant-loop-high
invariant-loop-high l = with_pairs l.pairs l.low (drop l.high-index l.highs) ≡ with_pairs l.fn.pairs l.low l.highs
