use Rattle.jr_kept.specs.Ordered.{Tells}
use Rattle.jr_kept.specs.Disturbed.{NoneDisturbs}
use Rattle.jr_kept.proofs.dropped.put_all.Given as goal

abbrev pub invariant-loop-number : goal.invariant-loop-number
invariant-loop-number l = Tells l.fn.lost l.lost (NoneDisturbs l.range.first l.range.end l.held l.between.behind l.between.before l.points l.number)
