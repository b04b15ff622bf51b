-- An expression in parentheses (JLS 15.8.5).
use Rattle.std.proofs.Common.{◌≡◌, ℕ, zero, suc, ◌+◌, ◌-◌, ◌<◌, ◌≤◌, Bool, true, false, if◌then◌else◌, length, refl, sym, ◌∙◌, ap, arith}
use Rattle.std.proofs.lemmas.Bool.{false≢true}
use Rattle.jr_tree.specs.Rows.{Rows, label}
use Rattle.jr_plain.proofs.Bounds.{bounded}
use Rattle.jr_flow_defs.specs.Meaning.{is_paren, unwrapped}
use Rattle.jr_flow.proofs.Siblings.{room_left}

unwrapped_by : (p : Rows) (room k : ℕ) (b : Bool) → is_paren (label p k) ≡ b → unwrapped p (suc room) k ≡ (if b then unwrapped p room (k + 1) else k)
unwrapped_by p room k b e = ap (λ t. if t then unwrapped p room (k + 1) else k) e

pub paren_inside : (p : Rows) (k : ℕ) → is_paren (label p k) ≡ true → k < length p
paren_inside p k e = bounded (λ l. is_paren l ≡ true) false≢true p k e

pub paren_next : (p : Rows) (o room turn k next : ℕ) → turn < room → next ≡ k + 1 → is_paren (label p k) ≡ true → unwrapped p (room - turn) k ≡ o → unwrapped p (room - (turn + 1)) next ≡ o
paren_next p o room turn k next lt is paren h = rw is (sym (unwrapped_by p (room - (turn + 1)) k true paren) ∙ ap (λ r. unwrapped p r k) (sym (room_left room turn lt)) ∙ h)

pub paren_found : (p : Rows) (o room turn k : ℕ) → turn < room → is_paren (label p k) ≡ false → unwrapped p (room - turn) k ≡ o → k ≡ o
paren_found p o room turn k lt other h = sym (unwrapped_by p (room - (turn + 1)) k false other) ∙ ap (λ r. unwrapped p r k) (sym (room_left room turn lt)) ∙ h

pub paren_none : (p : Rows) (o room turn k : ℕ) → room ≤ turn → unwrapped p (room - turn) k ≡ o → k ≡ o
paren_none p o room turn k le h = let e : room - turn ≡ 0 = omega arith in ap (λ r. unwrapped p r k) (sym e) ∙ h
