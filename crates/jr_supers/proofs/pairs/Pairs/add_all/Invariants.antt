use Rattle.std.proofs.Common.{◌≡◌, drop}
use Rattle.jr_supers.specs.Pairs.{with_pairs}
use Rattle.jr_supers.proofs.pairs.Pairs.add_all.Given as goal

abbrev pub invariant-loop-high : goal.invariant-loop-high
invariant-loop-high l = with_pairs l.pairs l.low (drop l.high-index l.highs) ≡ with_pairs l.fn.self l.low l.highs
