use Rattle.std.proofs.Common.{◌≡◌, ℕ, ◌<◌, Some, slice_get}
use Rattle.jr_kept.specs.Named.{origin_in}
use Rattle.jr_kept.specs.Handed.{added_in}
use Rattle.jr_kept.proofs.handing.first_added.Given as goal

abbrev pub invariant-loop-number : goal.invariant-loop-number
invariant-loop-number l = (i k : ℕ) → i < l.number → added_in l.range.first l.range.end (origin_in l.origin) (slice_get l.points i) ≡ Some k → ⊥
