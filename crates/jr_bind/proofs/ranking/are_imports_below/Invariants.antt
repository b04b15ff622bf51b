use Rattle.std.proofs.Common.{◌≡◌, ℕ, ◌+◌, ◌<◌, true, slice_index_or}
use Rattle.jr_defs.specs.Referents.{entries}
use Rattle.jr_bind.specs.Ranked.{AreBelow}
use Rattle.jr_bind.proofs.ranking.are_imports_below.Given as goal

abbrev pub invariant-loop-import : goal.invariant-loop-import
invariant-loop-import l = l.are ≡ true → (k : ℕ) → k < l.import-index → AreBelow l.under.rows.now (entries l.under.table.now) l.ranks l.bound (slice_index_or l.imports k 0 + 1)
