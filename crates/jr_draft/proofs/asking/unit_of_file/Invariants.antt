use Rattle.std.proofs.Common.{◌≡◌, ℕ, ◌<◌, false, ◌&&◌, nat_le}
use Rattle.std.specs.List.{slice_get}
use Rattle.jr_draft.specs.Asking.{has_path}
use Rattle.jr_draft.proofs.asking.unit_of_file.Given as goal

abbrev pub invariant-loop-unit : goal.invariant-loop-unit
invariant-loop-unit l = (k : ℕ) → k < l.unit → (nat_le 2 k && has_path l.path (slice_get l.marks.units.now k)) ≡ false
