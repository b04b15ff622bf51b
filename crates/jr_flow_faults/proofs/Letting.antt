-- Which classes are thrown at a row, and which members let a class out.
use Rattle.std.proofs.Common.{◌≡◌, sym, ◌∙◌, ap, ℕ, ◌+◌, ◌<◌, ◌≤◌, Bool, true, false, ◌&&◌, ◌||◌, List, [], ◌∷◌, ◌++◌, append_assoc, append-nil, flat_map, length, drop, slice_index_or}
use Rattle.std.specs.List.{list_any, list_all}
use Rattle.std.proofs.lemmas.List.{drop_more, drop_all}

-- ---- what the items of a list have

pub flat_next : (f : ℕ → List ℕ) (all left more done new : List ℕ) (x : ℕ) → left ≡ x ∷ more → new ≡ done ++ f x → done ++ flat_map f left ≡ all → new ++ flat_map f more ≡ all
flat_next f all left more done new x is e before = ap (λ xs. xs ++ flat_map f more) e ∙ append_assoc done (f x) (flat_map f more) ∙ ap (λ xs. done ++ flat_map f xs) (sym is) ∙ before

pub flat_end : (f : ℕ → List ℕ) (all left done : List ℕ) → left ≡ [] → done ++ flat_map f left ≡ all → done ≡ all
flat_end f all left done is before = sym (append-nil done) ∙ ap (λ xs. done ++ flat_map f xs) (sym is) ∙ before

-- ---- tests of the items of a list, from one on

module _ (test : ℕ → Bool) (xs : List ℕ) (k d : ℕ) where
  pub any_now : k < length xs → true ≡ test (slice_index_or xs k d) → list_any test (drop k xs) ≡ list_any test xs → true ≡ list_any test xs
  any_now lt now h = ap (λ b. b || list_any test (drop (k + 1) xs)) now ∙ sym (ap (list_any test) (drop_more xs k d lt)) ∙ h

  pub any_next : k < length xs → false ≡ test (slice_index_or xs k d) → list_any test (drop k xs) ≡ list_any test xs → list_any test (drop (k + 1) xs) ≡ list_any test xs
  any_next lt now h = ap (λ b. b || list_any test (drop (k + 1) xs)) now ∙ sym (ap (list_any test) (drop_more xs k d lt)) ∙ h

  pub all_now : k < length xs → false ≡ test (slice_index_or xs k d) → list_all test (drop k xs) ≡ list_all test xs → false ≡ list_all test xs
  all_now lt now h = ap (λ b. b && list_all test (drop (k + 1) xs)) now ∙ sym (ap (list_all test) (drop_more xs k d lt)) ∙ h

  pub all_next : k < length xs → true ≡ test (slice_index_or xs k d) → list_all test (drop k xs) ≡ list_all test xs → list_all test (drop (k + 1) xs) ≡ list_all test xs
  all_next lt now h = ap (λ b. b && list_all test (drop (k + 1) xs)) now ∙ sym (ap (list_all test) (drop_more xs k d lt)) ∙ h

module _ (test : ℕ → Bool) (xs : List ℕ) (k : ℕ) where
  pub any_end : length xs ≤ k → list_any test (drop k xs) ≡ list_any test xs → false ≡ list_any test xs
  any_end past h = ap (list_any test) (sym (drop_all k xs past)) ∙ h

  pub all_end : length xs ≤ k → list_all test (drop k xs) ≡ list_all test xs → true ≡ list_all test xs
  all_end past h = ap (list_all test) (sym (drop_all k xs past)) ∙ h
