use Rattle.jr_kept.specs.Pruned.{AreNumbered}
use Rattle.jr_kept.proofs.reached.Left.put_all.Given as goal

abbrev pub invariant-loop-number : goal.invariant-loop-number
invariant-loop-number l = AreNumbered l.points l.met 0 l.fn.self.points.items l.fn.self.numbers.items → AreNumbered l.points l.met l.number l.self.points.items l.self.numbers.items
