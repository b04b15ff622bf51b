use Rattle.std.proofs.Common.{ℕ, ◌<◌}
use Rattle.jr_thin.specs.Clashes.{IsClash}
use Rattle.jr_thin.proofs.clashes.clash.Given as goal

abbrev pub invariant-loop-index : goal.invariant-loop-index
invariant-loop-index l = (e : ℕ) → e < l.index → IsClash l.sites l.name l.declaration e → ⊥
