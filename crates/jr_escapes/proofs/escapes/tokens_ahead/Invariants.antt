use Rattle.std.proofs.Common.{◌≡◌, ℕ, ◌≤◌, length}
use Rattle.jr_escapes.specs.Escapes.{AreRising, is_outside}
use Rattle.jr_escapes.proofs.escapes.tokens_ahead.Given as goal

abbrev pub invariant-loop-rest : goal.invariant-loop-rest
invariant-loop-rest l = record {
  rising : AreRising l.rest;
  same : (place : ℕ) → l.at ≤ place → is_outside l.rest place ≡ is_outside l.tokens place;
}

abbrev pub decreases-loop-rest : goal.decreases-loop-rest
decreases-loop-rest l = length l.rest
