use Rattle.std.proofs.Common.{ℕ, List}
use Rattle.jr_flow.specs.Linked.{AreLinked}
use Rattle.jr_flow.specs.Spread.{lets, IsMet, EntersBefore}
use Rattle.jr_flow.proofs.search.Search.enter_all.Given as goal

abbrev pub invariant-loop-nth : goal.invariant-loop-nth
invariant-loop-nth l = (bound : ℕ) (all : List (ℕ × ℕ)) → AreLinked all l.links → IsMet bound l.fn.self → EntersBefore bound (lets l.gate.set.now l.gate.is_inside) l.fn.self l.self all l.links l.key l.nth
