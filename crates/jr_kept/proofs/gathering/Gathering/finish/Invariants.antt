use Rattle.std.proofs.Common.{ℕ}
use Rattle.jr_kept.specs.Listed.{under_in}
use Rattle.jr_kept.specs.Named.{origin_in}
use Rattle.jr_kept.specs.Gathered.{use_in, AreInside, AreOriginals, IsGathering}
use Rattle.jr_kept.proofs.gathering.Gathering.finish.Given as goal

abbrev pub invariant-loop-turn : goal.invariant-loop-turn
invariant-loop-turn l = (used old new : ℕ) → AreInside (under_in l.definitions) new → AreOriginals l.fn.self.originals old
    → IsGathering (under_in l.definitions) (use_in l.handing) (origin_in l.origin) used new l.fn.self.seen l.fn.self.waiting.items l.fn.self.originals.all.items
    → AreOriginals l.self.originals old × IsGathering (under_in l.definitions) (use_in l.handing) (origin_in l.origin) used new l.self.seen l.self.waiting.items l.self.originals.all.items
