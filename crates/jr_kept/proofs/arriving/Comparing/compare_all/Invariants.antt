use Rattle.std.proofs.Common.{ℕ, length}
use Rattle.jr_kept.specs.Listed.{under_in}
use Rattle.jr_kept.specs.Gathered.{AreBelow, AreInside}
use Rattle.jr_kept.specs.Ordered.{AreNone}
use Rattle.jr_kept.specs.Arrived.{CanCompare, Compares, AreDone, AreSame}
use Rattle.jr_kept.proofs.arriving.Comparing.compare_all.Given as goal

abbrev pub invariant-loop-number : goal.invariant-loop-number
invariant-loop-number l = (many bound : ℕ) → AreInside (under_in l.uses.after.now) bound → AreBelow l.points (length l.points) bound → CanCompare l.fn.self many bound
    → CanCompare l.self many bound × Compares l.uses l.fn.self.done l.self.done l.fn.lost l.lost × AreDone l.uses l.self.done l.points l.number
    × (AreInside (under_in l.uses.before.now) many → AreNone l.fn.lost → AreSame l.uses l.points → AreNone l.lost)
