use Rattle.std.proofs.Common.{ℕ, List}
use Rattle.jr_kept.specs.Listed.{under_in}
use Rattle.jr_kept.specs.Spread.{IsSpreading}
use Rattle.jr_kept.proofs.spreading.Spreading.finish.Given as goal

abbrev pub invariant-loop-turn : goal.invariant-loop-turn
invariant-loop-turn l = (from : List ℕ) (bound : ℕ) → IsSpreading (under_in l.ways) from l.barred bound l.fn.self.met l.fn.self.waiting.items → IsSpreading (under_in l.ways) from l.barred bound l.self.met l.self.waiting.items
