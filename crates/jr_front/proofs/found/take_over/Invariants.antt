use Rattle.std.specs.Prelude.{take}
use Rattle.jr_front.specs.Tested.{AreTakenOver}
use Rattle.jr_front.proofs.found.take_over.Given as goal

abbrev pub invariant-loop-fault : goal.invariant-loop-fault
invariant-loop-fault l = AreTakenOver l.first l.last (take l.fault-index l.found) l.fn.out.items l.out.items
