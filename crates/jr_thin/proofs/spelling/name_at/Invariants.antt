use Rattle.std.proofs.Common.{ℕ, ◌<◌}
use Rattle.jr_thin.specs.Text.{Covers}
use Rattle.jr_thin.proofs.spelling.name_at.Given as goal

abbrev pub invariant-loop-index : goal.invariant-loop-index
invariant-loop-index l = (i : ℕ) → i < l.index → Covers l.tokens l.sites l.at i → ⊥
