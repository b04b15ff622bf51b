use Rattle.jr_locks.specs.Adding.{AreBegun}
use Rattle.jr_locks.proofs.origins.origins_of.Given as goal

abbrev pub invariant-loop-segment : goal.invariant-loop-segment
invariant-loop-segment l = AreBegun l.segments l.all l.segment-index
