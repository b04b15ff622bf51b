use Rattle.std.proofs.Common.{◌≡◌, ◌++◌, drop}
use Rattle.jr_lookup.proofs.simple.add_all.Given as goal

abbrev pub invariant-loop-at : goal.invariant-loop-at
invariant-loop-at l = l.all.items ++ drop l.at-index l.more ≡ l.fn.all.items ++ l.more
