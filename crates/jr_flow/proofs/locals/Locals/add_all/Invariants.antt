use Rattle.jr_flow.specs.Woven.{AreLocals}
use Rattle.jr_flow.proofs.locals.Locals.add_all.Given as goal

abbrev pub invariant-loop-number : goal.invariant-loop-number
invariant-loop-number l = AreLocals l.points 0 l.fn.self → AreLocals l.points l.number l.self
