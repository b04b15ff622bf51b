use Rattle.std.proofs.Common.{◌≡◌, ◌++◌, drop}
use Rattle.jr_kept.specs.Gathered.{pairs_of}
use Rattle.jr_kept.proofs.gathering.put_pairs.Given as goal

abbrev pub invariant-loop-definition : goal.invariant-loop-definition
invariant-loop-definition l = l.pairs.items ++ pairs_of l.points (drop l.definition-index l.reaching) ≡ l.fn.pairs.items ++ pairs_of l.points l.reaching
