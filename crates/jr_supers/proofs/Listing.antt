-- Each item of a list that rises, once.
use Rattle.std.proofs.Common.{◌≡◌, ◌⊎◌, refl, sym, ◌∙◌, ap, subst, inl, inr, ⊎_elim, arith, ℕ, zero, suc, ◌<◌, ◌≤◌, Bool, true, false, cond, List, [], ◌∷◌, ◌++◌, length, get_or, add-one, Option, Some, None, nat_eq}
use Rattle.std.specs.Prelude.{⊤}
use Rattle.std.specs.List.Sorted.{IsNonDecreasing, IsStrictlyIncreasing}
use Rattle.std.proofs.lemmas.Bool.{false≢true, cases_eq, or_left, or_right, or_cases}
use Rattle.std.proofs.lemmas.Bool.Decides.{Decides-eqb}
use Rattle.jr_plain.specs.Search.{has}
use Rattle.jr_supers.specs.Supers.{is_last, once}

-- ---- the same items

once_out : (before : Option ℕ) (xs : List ℕ) (y : ℕ) → has (once before xs) y ≡ true → has xs y ≡ true
once_out before [] y h = h
once_out before (x ∷ xs) y h = by (is_last before x) h (once_out (Some x) xs y)
  where
    by : (b : Bool) → has (cond b [] (x ∷ []) ++ once (Some x) xs) y ≡ true → (has (once (Some x) xs) y ≡ true → has xs y ≡ true) → has (x ∷ xs) y ≡ true
    by true h more = or_right (nat_eq x y) (has xs y) (more h)
    by false h more = ⊎_elim (λ e. or_left (nat_eq x y) (has xs y) e) (λ k. or_right (nat_eq x y) (has xs y) (more k)) (or_cases (nat_eq x y) (has (once (Some x) xs) y) h)

-- what stands before is not listed again
once_into : (before : Option ℕ) (xs : List ℕ) (y : ℕ) → has xs y ≡ true → (before ≡ Some y) ⊎ (has (once before xs) y ≡ true)
once_into before [] y h = absurd (false≢true h)
once_into before (x ∷ xs) y h = by before (is_last before x) refl (⊎_elim (λ e. inl ((Decides-eqb x y).0 e)) (λ k. inr (once_into (Some x) xs y k)) (or_cases (nat_eq x y) (has xs y) h))
  where
    last_is : (before : Option ℕ) → is_last before x ≡ true → before ≡ Some x
    last_is None e = absurd (false≢true e)
    last_is (Some z) e = ap Some ((Decides-eqb z x).0 e)

    same_as : Some x ≡ Some y → x ≡ y
    same_as e = cc

    by : (before : Option ℕ) (b : Bool) → is_last before x ≡ b → (x ≡ y) ⊎ ((Some x ≡ Some y) ⊎ (has (once (Some x) xs) y ≡ true)) → (before ≡ Some y) ⊎ (has (cond b [] (x ∷ []) ++ once (Some x) xs) y ≡ true)
    by before true e (inl same) = inl (last_is before e ∙ ap Some same)
    by before true e (inr (inl same)) = inl (last_is before e ∙ same)
    by before true e (inr (inr k)) = inr k
    by before false e (inl same) = inr (or_left (nat_eq x y) (has (once (Some x) xs) y) ((Decides-eqb x y).1 same))
    by before false e (inr (inl same)) = inr (or_left (nat_eq x y) (has (once (Some x) xs) y) ((Decides-eqb x y).1 (same_as same)))
    by before false e (inr (inr k)) = inr (or_right (nat_eq x y) (has (once (Some x) xs) y) k)

none_some : (y : ℕ) → None ≡ Some y → ⊥
none_some y e = cc

pub once_has : (xs : List ℕ) (y : ℕ) → has xs y ≡ true → has (once None xs) y ≡ true
once_has xs y h = ⊎_elim (λ e. absurd (none_some y e)) (λ k. k) (once_into None xs y h)

pub once_is : (xs : List ℕ) (y : ℕ) → has (once None xs) y ≡ true → has xs y ≡ true
once_is xs y h = once_out None xs y h

-- ---- it rises

-- no item is below one that stands before the list
abbrev From : Option ℕ → ℕ → Type 0
From None x = ⊤
From (Some y) x = y ≤ x

abbrev Past : Option ℕ → ℕ → Type 0
Past None x = ⊤
Past (Some y) x = y < x

-- they do not fall; they rise
abbrev Stays : Option ℕ → List ℕ → Type 0
Stays before [] = ⊤
Stays before (x ∷ xs) = From before x × Stays (Some x) xs

abbrev Rises : Option ℕ → List ℕ → Type 0
Rises before [] = ⊤
Rises before (x ∷ xs) = Past before x × Rises (Some x) xs

stays_from : (xs : List ℕ) → IsNonDecreasing xs → (y : ℕ) → ((k : ℕ) → k < length xs → y ≤ get_or xs k 0) → Stays (Some y) xs
stays_from [] h y le = tt
stays_from (x ∷ xs) h y le = (le 0 (omega arith), stays_from xs (λ i j d a b. h (suc i) (suc j) d (omega arith) (omega arith)) x (λ k lt. h 0 (suc k) 0 (omega arith) (omega arith)))

stays_all : (xs : List ℕ) → IsNonDecreasing xs → Stays None xs
stays_all [] h = tt
stays_all (x ∷ xs) h = (tt, stays_from xs (λ i j d a b. h (suc i) (suc j) d (omega arith) (omega arith)) x (λ k lt. h 0 (suc k) 0 (omega arith) (omega arith)))

once_rises : (before : Option ℕ) (xs : List ℕ) → Stays before xs → Rises before (once before xs)
once_rises before [] h = tt
once_rises before (x ∷ xs) h = by before (is_last before x) refl h.0 (once_rises (Some x) xs h.1)
  where
    past : (before : Option ℕ) → is_last before x ≡ false → From before x → Past before x
    past None e le = tt
    past (Some y) e le = ⊎_elim (λ same. absurd (false≢true (sym e ∙ (Decides-eqb y x).1 same))) (λ apart. omega arith) (cases_eq y x)

    weaker : (before : Option ℕ) → is_last before x ≡ true → (ys : List ℕ) → Rises (Some x) ys → Rises before ys
    weaker before e [] h = tt
    weaker None e (y ∷ ys) h = (tt, h.1)
    weaker (Some z) e (y ∷ ys) h = let same = (Decides-eqb z x).0 e in let lt = h.0 in (omega arith, h.1)

    by : (before : Option ℕ) (b : Bool) → is_last before x ≡ b → From before x → Rises (Some x) (once (Some x) xs) → Rises before (cond b [] (x ∷ []) ++ once (Some x) xs)
    by before true e le more = weaker before e (once (Some x) xs) more
    by before false e le more = (past before e le, more)

increasing : (before : Option ℕ) (xs : List ℕ) → Rises before xs → (k : ℕ) → suc k < length xs → get_or xs k 0 < get_or xs (suc k) 0
increasing before [] h k lt = absurd (omega arith)
increasing before (x ∷ []) h k lt = absurd (omega arith)
increasing before (x ∷ (y ∷ xs)) h zero lt = h.1.0
increasing before (x ∷ (y ∷ xs)) h (suc k) lt = increasing (Some x) (y ∷ xs) h.1 k (omega arith)

pub once_increases : (xs : List ℕ) → IsNonDecreasing xs → IsStrictlyIncreasing (once None xs)
once_increases xs h = λ k lt. subst (λ m. get_or (once None xs) k 0 < get_or (once None xs) m 0) (sym (add-one k)) (increasing None (once None xs) (once_rises None xs (stays_all xs h)) k (omega arith))
