use Rattle.std.proofs.Common.{◌≡◌, drop}
use Rattle.std.specs.List.{list_any}
use Rattle.jr_supers.specs.Pairs.{has_pair}
use Rattle.jr_flow_faults.proofs.pairs.is_any_pair.Given as goal

abbrev pub invariant-loop-high : goal.invariant-loop-high
invariant-loop-high l = list_any (λ high. has_pair l.pairs l.low high) (drop l.high-index l.highs) ≡ list_any (λ high. has_pair l.pairs l.low high) l.highs
