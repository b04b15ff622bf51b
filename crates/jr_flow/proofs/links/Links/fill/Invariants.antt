use Rattle.std.proofs.Common.{ℕ}
use Rattle.std.specs.List.Sorted.{IsNonDecreasingBy}
use Rattle.jr_flow.specs.Linked.{AreFilled}
use Rattle.jr_flow.proofs.links.Links.fill.Given as goal

abbrev pub invariant-loop-nth : goal.invariant-loop-nth
invariant-loop-nth l = IsNonDecreasingBy (λ pair. pair.0) l.pairs → AreFilled l.pairs 0 l.fn.self → AreFilled l.pairs l.nth l.self
