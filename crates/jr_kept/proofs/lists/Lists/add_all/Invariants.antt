use Rattle.std.proofs.Common.{ℕ, [], take}
use Rattle.jr_kept.specs.Listed.{IsListing}
use Rattle.jr_kept.proofs.lists.Lists.add_all.Given as goal

abbrev pub invariant-loop-number : goal.invariant-loop-number
invariant-loop-number l = (first count : ℕ) → IsListing l.fn.self first count [] → IsListing l.self first count (take l.number-index l.pairs)
