use Rattle.std.proofs.Common.{◌≡◌, ℕ, take}
use Rattle.std.specs.List.{Contains}
use Rattle.jr_kept.specs.Listed.{under_in}
use Rattle.jr_kept.specs.Spread.{AreNext}
use Rattle.jr_kept.proofs.spreading.Spreading.begin.Given as goal

abbrev pub invariant-loop-point : goal.invariant-loop-point
invariant-loop-point l = (l.self.met ≡ l.fn.self.met) × ((i k : ℕ) → Contains (take l.point-index l.from) i → Contains (under_in l.ways i) k → Contains l.self.waiting.items k)
    × AreNext (under_in l.ways) (take l.point-index l.from) l.fn.self.waiting.items l.self.waiting.items
