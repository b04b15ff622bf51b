use Rattle.jr_kept.specs.Searched.{ArePairs}
use Rattle.jr_kept.proofs.search.names_with_points.Given as goal

abbrev pub invariant-loop-point : goal.invariant-loop-point
invariant-loop-point l = ArePairs l.names l.pairs.items l.point
