use Rattle.std.proofs.Common.{◌≡◌, ℕ, true, take}
use Rattle.std.specs.List.{Contains}
use Rattle.jr_places.specs.Stamps.{is_stamped}
use Rattle.jr_kept.specs.Ordered.{Tells}
use Rattle.jr_kept.proofs.arriving.put_new_alone.Given as goal

abbrev pub invariant-loop-definition : goal.invariant-loop-definition
invariant-loop-definition l = Tells l.fn.lost l.lost ((n : ℕ) → Contains (take l.definition-index l.definitions) n → is_stamped l.old n ≡ true)
