use Rattle.std.proofs.Common.{ℕ, List}
use Rattle.jr_flow.specs.Linked.{AreLinked}
use Rattle.jr_flow.specs.Spread.{lets, IsSearched}
use Rattle.jr_flow.proofs.search.Search.finish.Given as goal

abbrev pub invariant-loop-nth : goal.invariant-loop-nth
invariant-loop-nth l = (bound : ℕ) (starts all : List (ℕ × ℕ)) (key : ℕ) → AreLinked all l.links → IsSearched bound (lets l.gate.set.now l.gate.is_inside) starts key all l.fn.self 0 → IsSearched bound (lets l.gate.set.now l.gate.is_inside) starts key all l.self l.nth
