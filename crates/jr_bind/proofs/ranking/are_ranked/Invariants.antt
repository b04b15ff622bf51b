use Rattle.std.proofs.Common.{◌≡◌, ℕ, ◌<◌, true}
use Rattle.jr_lookup.specs.Sights.{IsSight}
use Rattle.jr_bind.specs.Confirmed.{rows_of, table_of}
use Rattle.jr_bind.specs.Ranked.{IsRankedAt}
use Rattle.jr_bind.proofs.ranking.are_ranked.Given as goal

abbrev pub invariant-loop-at : goal.invariant-loop-at
invariant-loop-at l = IsSight (table_of l.sight) l.sight → l.are ≡ true → (n : ℕ) → n < l.at → IsRankedAt (rows_of l.sight) (table_of l.sight) l.ranks n
