use Rattle.jr_front.proofs.Breaking.{AreJudged}
use Rattle.jr_front.proofs.broken.first_broken.Given as goal

abbrev pub invariant-loop-fault : goal.invariant-loop-fault
invariant-loop-fault l = AreJudged l.marks l.faults l.fault-index l.first
