use Rattle.std.proofs.Common.{length}
use Rattle.jr_engine.specs.Steps.{opened_by}
use Rattle.jr_engine.proofs.Stepping.{AreStepsTo}
use Rattle.jr_engine.proofs.planning.left_by_all.Given as goal

abbrev pub invariant-loop-request : goal.invariant-loop-request
invariant-loop-request l = AreStepsTo (opened_by l.fn.found) l.requests l.now l.rest l.number

abbrev pub decreases-loop-request : goal.decreases-loop-request
decreases-loop-request l = length l.rest
