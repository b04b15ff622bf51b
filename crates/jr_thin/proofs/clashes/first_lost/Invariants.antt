use Rattle.std.proofs.Common.{ℕ, ◌<◌}
use Rattle.jr_thin.specs.Clashes.{IsLostUse}
use Rattle.jr_thin.proofs.clashes.first_lost.Given as goal

abbrev pub invariant-loop-index : goal.invariant-loop-index
invariant-loop-index l = (u : ℕ) → u < l.index → IsLostUse l.sites l.targets l.first l.last u → ⊥
