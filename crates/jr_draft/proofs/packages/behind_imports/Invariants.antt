use Rattle.std.proofs.Common.{◌≡◌, ℕ, ◌<◌, false, ◌&&◌, nat_le}
use Rattle.jr_draft.specs.Packages.{is_no_import}
use Rattle.jr_draft.proofs.packages.behind_imports.Given as goal

abbrev pub invariant-loop-at : goal.invariant-loop-at
invariant-loop-at l = (k : ℕ) → k < l.at → (nat_le l.first k && is_no_import l.rows l.unit k) ≡ false
