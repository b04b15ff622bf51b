use Rattle.std.proofs.Common.{◌≡◌, ℕ, ◌+◌, ◌<◌, ◌^◌, false, length}
use Rattle.jr_members.specs.Sources.{ArePlaced}
use Rattle.jr_run.specs.Starting.{is_class_named}
use Rattle.jr_run.proofs.start.find_class.Given as goal

abbrev pub invariant-loop-at : goal.invariant-loop-at
invariant-loop-at l = ArePlaced l.under.rows.now l.under.places.now → length l.under.rows.now + 3 < 2 ^ 32 → (k : ℕ) → k < l.at → is_class_named l.under.rows.now l.name k ≡ false
