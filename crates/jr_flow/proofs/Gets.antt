-- Items of lists that are put together, pushed or set.
use Rattle.std.proofs.Common.{◌≡◌, ◌⊎◌, inl, inr, ⊎_elim, refl, sym, ◌∙◌, ap, arith, ℕ, zero, suc, ◌+◌, ◌<◌, ◌≤◌, List, [], ◌∷◌, ◌++◌, length, Option, Some, None, slice_get, slice_set}
use Rattle.std.proofs.lemmas.Option.{none-some, same_Some}

pub front_get : {A : Type 0} (all more : List A) (k : ℕ) → k < length all → slice_get (all ++ more) k ≡ slice_get all k
front_get [] more k lt = absurd (omega (arith, lt))
front_get (x ∷ all) more zero lt = refl
front_get (x ∷ all) more (suc k) lt = front_get all more k (omega arith)

pub behind_get : {A : Type 0} (all more : List A) (n k : ℕ) → n ≡ length all + k → slice_get (all ++ more) n ≡ slice_get more k
behind_get [] more n k e = let same : n ≡ k = omega (arith, e) in ap (slice_get more) same
behind_get (x ∷ all) more zero k e = absurd (omega (arith, e))
behind_get (x ∷ all) more (suc n) k e = behind_get all more n k (omega (arith, e))

pub got : {A : Type 0} (xs : List A) (n : ℕ) → n < length xs → (x : A) × (slice_get xs n ≡ Some x)
got [] n lt = absurd (omega (arith, lt))
got (x ∷ xs) zero lt = (x, refl)
got (x ∷ xs) (suc n) lt = got xs n (omega (arith, lt))

pub get_pushed : {A : Type 0} (all : List A) (y x : A) (k : ℕ) → slice_get (all ++ y ∷ []) k ≡ Some x → (slice_get all k ≡ Some x) ⊎ ((k ≡ length all) × (y ≡ x))
get_pushed [] y x zero e = inr (refl, same_Some y x e)
get_pushed [] y x (suc k) e = absurd (none-some x e)
get_pushed (z ∷ all) y x zero e = inl e
get_pushed (z ∷ all) y x (suc k) e = ⊎_elim (λ h. inl h) (λ h. let l = h.0 in inr (omega (arith, l), h.1)) (get_pushed all y x k e)

pub get_last : {A : Type 0} (all : List A) (y : A) → slice_get (all ++ y ∷ []) (length all) ≡ Some y
get_last [] y = refl
get_last (z ∷ all) y = get_last all y

pub get_set_same : {A : Type 0} (xs : List A) (i : ℕ) (y : A) → i < length xs → slice_get (slice_set xs i y) i ≡ Some y
get_set_same [] i y lt = absurd (omega (arith, lt))
get_set_same (x ∷ xs) zero y lt = refl
get_set_same (x ∷ xs) (suc i) y lt = get_set_same xs i y (omega (arith, lt))

pub get_set_other : {A : Type 0} (xs : List A) (i j : ℕ) (y : A) → (i ≡ j → ⊥) → slice_get (slice_set xs i y) j ≡ slice_get xs j
get_set_other [] i j y apart = refl
get_set_other (x ∷ xs) zero zero y apart = absurd (apart refl)
get_set_other (x ∷ xs) zero (suc j) y apart = refl
get_set_other (x ∷ xs) (suc i) zero y apart = refl
get_set_other (x ∷ xs) (suc i) (suc j) y apart = get_set_other xs i j y (λ e. apart (ap suc e))

pub set_length : {A : Type 0} (xs : List A) (i : ℕ) (y : A) → length (slice_set xs i y) ≡ length xs
set_length [] i y = refl
set_length (x ∷ xs) zero y = refl
set_length (x ∷ xs) (suc i) y = ap suc (set_length xs i y)
