use Rattle.std.proofs.Common.{length}
use Rattle.jr_shapes.proofs.Pushes.{FirstTo}
use Rattle.jr_shapes.proofs.names.push_first.Given as goal

abbrev pub decreases-loop-at : goal.decreases-loop-at
decreases-loop-at l = length l.rest

abbrev pub invariant-loop-at : goal.invariant-loop-at
invariant-loop-at l = FirstTo l.fn.all.items l.fn.most l.some l.left l.rest l.all.items
