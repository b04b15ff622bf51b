-- A constructor that begins with a call of another: it is sought in the rows of the constructor.
use Rattle.std.proofs.Common.{◌≡◌, refl, sym, ◌∙◌, ap, ap₂, ⊎_elim, arith, ℕ, zero, suc, ◌+◌, ◌-◌, ◌≤◌, Bool, false, ◌&&◌, ◌||◌, nat_eq}
use Rattle.std.proofs.lemmas.Bool.{cases_lt, le-ltb}
use Rattle.jr_tree.specs.Rows.{Rows, label, parent}
use Rattle.jr_plain.specs.Search.{any_below}
use Rattle.jr_assign.specs.Blank.{is_this_call}
use Rattle.jr_assign.specs.Made.{is_handing}

-- no row up to a constructor is such a call
none_handing : (p : Rows) (c k : ℕ) → k ≤ c + 1 → any_below k (is_handing p c) ≡ false
none_handing p c zero le = refl
none_handing p c (suc k) le = ap (λ b. b || is_handing p c k) (none_handing p c k (omega arith))
    ∙ ap (λ b. b && (is_this_call (label p k) && nat_eq (parent p (parent p k)) c)) (le-ltb c k (omega arith))

pub handing_begins : (p : Rows) (c : ℕ) → false ≡ any_below (c + 0) (is_handing p c)
handing_begins p c = sym (none_handing p c (c + 0) (omega arith))

pub handing_more : (p : Rows) (c inside : ℕ) (hands here more : Bool) → hands ≡ any_below (c + inside) (is_handing p c) → here ≡ is_handing p c (c + inside) → more ≡ (hands || here) → more ≡ any_below (c + (inside + 1)) (is_handing p c)
handing_more p c inside hands here more e h m = m ∙ ap₂ (λ a b. a || b) e h ∙ ap (λ k. any_below k (is_handing p c)) next
  where
    next : suc (c + inside) ≡ c + (inside + 1)
    next = omega arith

pub handing_ends : (p : Rows) (c e inside : ℕ) (hands : Bool) → inside ≡ e - c → hands ≡ any_below (c + inside) (is_handing p c) → hands ≡ any_below e (is_handing p c)
handing_ends p c e inside hands at is = ⊎_elim
    (λ less. is ∙ none_handing p c (c + inside) (omega arith) ∙ sym (none_handing p c e (omega arith)))
    (λ le. is ∙ ap (λ k. any_below k (is_handing p c)) (whole le))
    (cases_lt e c)
  where
    whole : c ≤ e → c + inside ≡ e
    whole le = omega arith

-- nor does one past the last row
pub none_past : (p : Rows) (c : ℕ) → false ≡ any_below (c + 1) (is_handing p c)
none_past p c = sym (none_handing p c (c + 1) (omega arith))
