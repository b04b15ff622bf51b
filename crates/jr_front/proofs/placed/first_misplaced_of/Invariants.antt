use Rattle.jr_front.proofs.Placing.{AreCounted}
use Rattle.jr_front.proofs.placed.first_misplaced_of.Given as goal

abbrev pub invariant-loop-placed : goal.invariant-loop-placed
invariant-loop-placed l = AreCounted l.from l.units l.placed-index l.number
