use Rattle.std.proofs.Common.{◌≡◌, ◌<◌, ℕ, true, take}
use Rattle.std.specs.List.{Contains}
use Rattle.jr_places.specs.Stamps.{is_stamped, IsStamping, IsEmptied}
use Rattle.jr_kept.proofs.arriving.fill.Given as goal

abbrev pub invariant-loop-row : goal.invariant-loop-row
invariant-loop-row l = (bound : ℕ) → IsEmptied l.fn.set bound → IsStamping l.set bound × ((n : ℕ) → is_stamped l.set n ≡ true → Contains (take l.row-index l.rows) n) × ((n : ℕ) → Contains (take l.row-index l.rows) n → n < bound → is_stamped l.set n ≡ true)
