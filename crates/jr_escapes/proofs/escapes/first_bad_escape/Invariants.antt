use Rattle.std.proofs.Common.{◌≡◌, ℕ, ◌≤◌, ◌<◌, false}
use Rattle.jr_escapes.specs.Escapes.{AreRising, is_outside, is_even_before, is_bad_escape_at}
use Rattle.jr_escapes.proofs.escapes.first_bad_escape.Given as goal

abbrev pub invariant-loop-at : goal.invariant-loop-at
invariant-loop-at l = record {
  rising : AreRising l.rest;
  same : (place : ℕ) → l.at ≤ place → is_outside l.rest place ≡ is_outside l.tokens place;
  even : l.is_even ≡ is_even_before l.bytes l.at;
  free : (place : ℕ) → place < l.at → is_bad_escape_at l.bytes l.tokens place ≡ false;
}
