use Rattle.jr_shapes.proofs.Pushes.{RangeTo}
use Rattle.jr_shapes.proofs.names.push_range.Given as goal

abbrev pub invariant-loop-at : goal.invariant-loop-at
invariant-loop-at l = RangeTo l.fn.all.items l.fn.first l.fn.end l.at l.all.items
