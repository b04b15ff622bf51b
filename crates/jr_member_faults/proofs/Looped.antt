-- A loop that ends at the first item that passes, or at the first that does not.
use Rattle.std.proofs.Common.{◌≡◌, ◌⊎◌, sym, ◌∙◌, ap, subst, inl, inr, ⊎_elim, ℕ, ◌+◌, ◌<◌, ◌≤◌, Bool, true, false, ◌&&◌, ◌||◌, List, [], ◌∷◌, ◌++◌, append-nil, append_assoc, flat_map, length, drop, get_or, nat_eq}
use Rattle.std.specs.List.{list_any, list_all}
use Rattle.std.proofs.lemmas.Bool.{false≢true, or_cases, or_parts}
use Rattle.std.proofs.lemmas.Bool.Decides.{Decides-eqb}
use Rattle.std.proofs.lemmas.List.{drop_more, drop_all}
use Rattle.jr_plain.specs.Search.{has}

-- one item more of a list is done
pub flat_more : (f : ℕ → List ℕ) (all left more done new : List ℕ) (x : ℕ) → left ≡ x ∷ more → new ≡ done ++ f x → done ++ flat_map f left ≡ all → new ++ flat_map f more ≡ all
flat_more f all left more done new x is e before = ap (λ xs. xs ++ flat_map f more) e ∙ append_assoc done (f x) (flat_map f more) ∙ ap (λ xs. done ++ flat_map f xs) (sym is) ∙ before

pub flat_end : (f : ℕ → List ℕ) (all left done : List ℕ) → left ≡ [] → done ++ flat_map f left ≡ all → done ≡ all
flat_end f all left done is before = sym (append-nil done) ∙ ap (λ xs. done ++ flat_map f xs) (sym is) ∙ before

module _ (test : ℕ → Bool) (xs : List ℕ) (i : ℕ) where
  some_then : i < length xs → list_any test (drop i xs) ≡ (test (get_or xs i 0) || list_any test (drop (i + 1) xs))
  some_then lt = ap (list_any test) (drop_more xs i 0 lt)

  pub some_hit : i < length xs → test (get_or xs i 0) ≡ true → list_any test (drop i xs) ≡ list_any test xs → true ≡ list_any test xs
  some_hit lt e h = sym (ap (λ b. b || list_any test (drop (i + 1) xs)) e) ∙ sym (some_then lt) ∙ h

  pub some_next : i < length xs → test (get_or xs i 0) ≡ false → list_any test (drop i xs) ≡ list_any test xs → list_any test (drop (i + 1) xs) ≡ list_any test xs
  some_next lt e h = sym (ap (λ b. b || list_any test (drop (i + 1) xs)) e) ∙ sym (some_then lt) ∙ h

  pub some_end : length xs ≤ i → list_any test (drop i xs) ≡ list_any test xs → false ≡ list_any test xs
  some_end le h = ap (list_any test) (sym (drop_all i xs le)) ∙ h

  all_then : i < length xs → list_all test (drop i xs) ≡ (test (get_or xs i 0) && list_all test (drop (i + 1) xs))
  all_then lt = ap (list_all test) (drop_more xs i 0 lt)

  pub all_miss : i < length xs → test (get_or xs i 0) ≡ false → list_all test (drop i xs) ≡ list_all test xs → false ≡ list_all test xs
  all_miss lt e h = sym (ap (λ b. b && list_all test (drop (i + 1) xs)) e) ∙ sym (all_then lt) ∙ h

  pub all_next : i < length xs → test (get_or xs i 0) ≡ true → list_all test (drop i xs) ≡ list_all test xs → list_all test (drop (i + 1) xs) ≡ list_all test xs
  all_next lt e h = sym (ap (λ b. b && list_all test (drop (i + 1) xs)) e) ∙ sym (all_then lt) ∙ h

  pub all_end : length xs ≤ i → list_all test (drop i xs) ≡ list_all test xs → true ≡ list_all test xs
  all_end le h = ap (list_all test) (sym (drop_all i xs le)) ∙ h

-- where none passes, an item does not
pub none_passes : (test : ℕ → Bool) (xs : List ℕ) (k : ℕ) → list_any test xs ≡ false → has xs k ≡ true → test k ≡ false
none_passes test [] k none h = absurd (false≢true h)
none_passes test (x ∷ xs) k none h = let parts = or_parts (test x) (list_any test xs) none in
    ⊎_elim (λ e. subst (λ y. test y ≡ false) ((Decides-eqb x k).0 e) parts.0) (λ at. none_passes test xs k parts.1 at) (or_cases (nat_eq x k) (has xs k) h)

-- ---- something told of each

-- of each but the rest
abbrev pub IsToldOf : List ℕ → List ℕ → (ℕ → Type 0) → Type 0
IsToldOf all rest P = (s : ℕ) → has all s ≡ true → P s ⊎ (has rest s ≡ true)

pub each_more : (all rest : List ℕ) (P Q : ℕ → Type 0) → ((s : ℕ) → P s → Q s) → IsToldOf all rest P → IsToldOf all rest Q
each_more all rest P Q f h s at = ⊎_elim (λ k. inl (f s k)) inr (h s at)

pub each_next : (all left more : List ℕ) (x : ℕ) (P : ℕ → Type 0) → left ≡ x ∷ more → P x → IsToldOf all left P → IsToldOf all more P
each_next all left more x P is here before s at = ⊎_elim inl (λ h. ⊎_elim (λ e. inl (subst P ((Decides-eqb x s).0 e) here)) inr (or_cases (nat_eq x s) (has more s) (subst (λ xs. has xs s ≡ true) is h))) (before s at)

pub each_end : (all left : List ℕ) (P : ℕ → Type 0) → left ≡ [] → IsToldOf all left P → (s : ℕ) → has all s ≡ true → P s
each_end all left P none told s at = ⊎_elim (λ h. h) (λ h. absurd (false≢true (subst (λ xs. has xs s ≡ true) none h))) (told s at)
