use Rattle.std.proofs.Common.{ℕ}
use Rattle.jr_kept.specs.Gathered.{AreOriginals}
use Rattle.jr_kept.specs.Carried.{HasLocals}
use Rattle.jr_kept.proofs.carried.add_locals.Given as goal

abbrev pub invariant-loop-number : goal.invariant-loop-number
invariant-loop-number l = (bound : ℕ) → AreOriginals l.fn.all bound → AreOriginals l.all bound × HasLocals l.points l.is_definition l.number l.all.all.items
