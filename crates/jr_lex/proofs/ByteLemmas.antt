-- What tests of bytes say.
use Rattle.std.specs.Prelude.{slice_range}
use Rattle.std.proofs.Common.{◌≡◌, ◌⊎◌, ℕ, ◌-◌, take, ap, ◌<◌, ◌≤◌, Bool, true, false, ◌&&◌, List, [], ◌∷◌, length, get_or, zero, suc, refl, sym, ◌∙◌, arith}
use Rattle.std.specs.List.{list_all}
use Rattle.std.proofs.lemmas.Bool.{false≢true}

pub both_left : (x y : Bool) → (x && y) ≡ true → x ≡ true
both_left true y h = refl
both_left false y h = h

pub both_right : (x y : Bool) → (x && y) ≡ true → y ≡ true
both_right true y h = h
both_right false y h = absurd (false≢true h)

pub no_both : {b : Bool} → b ≡ true → b ≡ false → ⊥
no_both h k = false≢true (sym k ∙ h)

pub le_or_lt : (a b : ℕ) → (a ≤ b) ⊎ (b < a)
le_or_lt a b = grind arith

-- what holds of all elements holds of each
pub all_each : (p : ℕ → Bool) (xs : List ℕ) → list_all p xs ≡ true → (i : ℕ) → i < length xs → p (get_or xs i 0) ≡ true
all_each p [] h i l = absurd (omega arith)
all_each p (x ∷ xs) h zero l = both_left (p x) (list_all p xs) h
all_each p (x ∷ xs) h (suc i) l = all_each p xs (both_right (p x) (list_all p xs) h) i (omega arith)

-- the part of a list from its start on
pub range_front : (xs : List ℕ) (n : ℕ) → slice_range xs 0 n ≡ take n xs
range_front xs n = ap (λ k. take k xs) (let e : n - 0 ≡ n = omega arith in e)
