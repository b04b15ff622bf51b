use Rattle.std.proofs.Common.{ℕ}
use Rattle.jr_flow_defs.specs.Graphs.{StepList}
use Rattle.jr_kept.specs.Searched.{AreWays}
use Rattle.jr_kept.specs.Pruned.{IsArriving}
use Rattle.jr_kept.proofs.reached.Arriving.finish.Given as goal

abbrev pub invariant-loop-turn : goal.invariant-loop-turn
invariant-loop-turn l = (count : ℕ) (steps : StepList) → AreWays l.ways count steps → IsArriving count steps l.fn.self.met l.fn.self.waiting.items → IsArriving count steps l.self.met l.self.waiting.items
