use Rattle.std.proofs.Common.{◌≡◌, ℕ, ◌<◌, false, ◌&&◌, nat_le}
use Rattle.jr_plain.specs.Enclosing.{is_body_of}
use Rattle.jr_pullup.proofs.pulled.body_of.Given as goal

abbrev pub invariant-loop-at : goal.invariant-loop-at
invariant-loop-at l = (k : ℕ) → k < l.at → (nat_le l.over k && is_body_of l.rows l.over k) ≡ false
