use Rattle.std.proofs.Common.{◌≡◌, ℕ, ◌<◌, ◌≤◌, true, Option}
use Rattle.jr_defs.specs.declared.referent.Referent.TheVariants.{Declared}
use Rattle.jr_defs.specs.Referents.{entries}
use Rattle.jr_defs.specs.Declarations.{IsType}
use Rattle.jr_bind.specs.Ranked.{rank_in}
use Rattle.jr_bind.proofs.ranking.are_below.Given as goal

abbrev pub invariant-loop-at : goal.invariant-loop-at
invariant-loop-at l = l.are ≡ true → (k s : ℕ) (level : Option ℕ) → l.name ≤ k → k < l.at → entries l.under.table.now k ≡ Declared s level → IsType l.under.rows.now s → rank_in l.ranks s < l.bound
