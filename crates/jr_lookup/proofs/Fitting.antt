-- Types of a list against those at their places in another, a place at a time.
use Rattle.std.proofs.Common.{◌≡◌, refl, sym, ◌∙◌, ap, ap₂, arith, ℕ, zero, suc, ◌≤◌, ◌<◌, Bool, true, false, ◌&&◌, List, [], ◌∷◌, length, drop, slice_get, Option, Some, None, option_map}
use Rattle.std.specs.Option.{option_map_or}
use Rattle.std.proofs.lemmas.Bool.{false≢true, false_from_ne_true, and_parts}
use Rattle.std.proofs.lemmas.List.{drop_all}
use Rattle.std.proofs.lemmas.Option.{none-some, same_Some}
use Rattle.jr_tree.specs.Rows.{Rows}
use Rattle.jr_defs.specs.declared.referent.RowType.{RowType}
use Rattle.jr_defs.specs.Referents.{Table}
use Rattle.jr_plain.specs.Supertypes.{is_subtype}
use Rattle.jr_plain.specs.Overloads.{are_subtypes}
use Rattle.jr_supers.specs.Signatures.{nth_of}
use Rattle.jr_lookup.specs.Choices.{is_some_subtype}

-- the list was found and has so many types
abbrev pub IsCounted : Option (List RowType) → ℕ → Type 0
IsCounted found count = option_map (λ all. length all) found ≡ Some count

module _ (p : Rows) (t : Table) where
  -- each type of the one list is a subtype of the one at its place in the other, where both were found
  abbrev pub both_fit : Option (List RowType) → Option (List RowType) → Bool
  both_fit f g = option_map_or (λ first. option_map_or (λ second. are_subtypes p t first second) g false) f false

  -- the same, from a place on
  abbrev pub rest_fit : Option (List RowType) → Option (List RowType) → ℕ → Bool
  rest_fit f g n = option_map_or (λ first. option_map_or (λ second. are_subtypes p t (drop n first) (drop n second)) g false) f false

  pub fit_start : (f g : Option (List RowType)) → rest_fit f g 0 ≡ both_fit f g
  fit_start None g = refl
  fit_start (Some first) None = refl
  fit_start (Some first) (Some second) = refl

  pub first_lost : (f g : Option (List RowType)) (n : Option ℕ) → n ≡ None → n ≡ option_map (λ all. length all) f → false ≡ both_fit f g
  first_lost None g n none is = refl
  first_lost (Some first) g n none is = absurd (none-some (length first) (sym none ∙ is))

  pub second_lost : (f g : Option (List RowType)) (n : Option ℕ) → n ≡ None → n ≡ option_map (λ all. length all) g → false ≡ both_fit f g
  second_lost None g n none is = refl
  second_lost (Some first) None n none is = refl
  second_lost (Some first) (Some second) n none is = absurd (none-some (length second) (sym none ∙ is))

  one_size : (xs ys : List RowType) → are_subtypes p t xs ys ≡ true → length xs ≡ length ys
  one_size [] [] h = refl
  one_size [] (y ∷ ys) h = absurd (false≢true h)
  one_size (x ∷ xs) [] h = absurd (false≢true h)
  one_size (x ∷ xs) (y ∷ ys) h = ap suc (one_size xs ys (and_parts (is_subtype p t x y) (are_subtypes p t xs ys) h).1)

  pub sizes_apart : (f g : Option (List RowType)) (m n : ℕ) → IsCounted f m → IsCounted g n → (m ≡ n → ⊥) → false ≡ both_fit f g
  sizes_apart None g m n first second apart = refl
  sizes_apart (Some xs) None m n first second apart = refl
  sizes_apart (Some xs) (Some ys) m n first second apart = sym (false_from_ne_true (are_subtypes p t xs ys) (λ h. apart (sym (same_Some (length xs) m first) ∙ (one_size xs ys h ∙ same_Some (length ys) n second))))

  one_step : (xs ys : List RowType) (n : ℕ) → n < length xs → n < length ys
      → are_subtypes p t (drop n xs) (drop n ys) ≡ (is_some_subtype p t (slice_get xs n) (slice_get ys n) && are_subtypes p t (drop (suc n) xs) (drop (suc n) ys))
  one_step [] ys n lt le = absurd (omega arith)
  one_step (x ∷ xs) [] n lt le = absurd (omega arith)
  one_step (x ∷ xs) (y ∷ ys) zero lt le = refl
  one_step (x ∷ xs) (y ∷ ys) (suc n) lt le = one_step xs ys n (omega arith) (omega arith)

  pub fit_step : (f g : Option (List RowType)) (count n : ℕ) (a b : Option RowType) (below : Bool) → IsCounted f count → IsCounted g count → n < count → a ≡ nth_of f n → b ≡ nth_of g n → below ≡ is_some_subtype p t a b
      → rest_fit f g n ≡ (below && rest_fit f g (suc n))
  fit_step None g count n a b below first second lt is_a is_b is = absurd (none-some count first)
  fit_step (Some xs) None count n a b below first second lt is_a is_b is = absurd (none-some count second)
  fit_step (Some xs) (Some ys) count n a b below first second lt is_a is_b is =
      let i = same_Some (length xs) count first in let j = same_Some (length ys) count second in
      one_step xs ys n (omega (arith, i)) (omega (arith, j)) ∙ ap (λ c. c && are_subtypes p t (drop (suc n) xs) (drop (suc n) ys)) (sym (is ∙ ap₂ (is_some_subtype p t) is_a is_b))

  pub fit_stop : (f g : Option (List RowType)) (count n : ℕ) (a b : Option RowType) (below : Bool) → IsCounted f count → IsCounted g count → n < count → a ≡ nth_of f n → b ≡ nth_of g n → below ≡ is_some_subtype p t a b
      → below ≡ false → rest_fit f g n ≡ both_fit f g → false ≡ both_fit f g
  fit_stop f g count n a b below first second lt is_a is_b is fails h = sym (fit_step f g count n a b below first second lt is_a is_b is ∙ ap (λ c. c && rest_fit f g (suc n)) fails) ∙ h

  pub fit_next : (f g : Option (List RowType)) (count n next : ℕ) (a b : Option RowType) (below : Bool) → IsCounted f count → IsCounted g count → n < count → next ≡ suc n → a ≡ nth_of f n → b ≡ nth_of g n → below ≡ is_some_subtype p t a b
      → below ≡ true → rest_fit f g n ≡ both_fit f g → rest_fit f g next ≡ both_fit f g
  fit_next f g count n next a b below first second lt on is_a is_b is holds h = ap (rest_fit f g) on ∙ sym (fit_step f g count n a b below first second lt is_a is_b is ∙ ap (λ c. c && rest_fit f g (suc n)) holds) ∙ h

  pub fit_end : (f g : Option (List RowType)) (count n : ℕ) → IsCounted f count → IsCounted g count → count ≤ n → rest_fit f g n ≡ both_fit f g → true ≡ both_fit f g
  fit_end None g count n first second le h = absurd (none-some count first)
  fit_end (Some xs) None count n first second le h = absurd (none-some count second)
  fit_end (Some xs) (Some ys) count n first second le h =
      let i = same_Some (length xs) count first in let j = same_Some (length ys) count second in
      sym (ap₂ (are_subtypes p t) (drop_all n xs (omega (arith, i))) (drop_all n ys (omega (arith, j)))) ∙ h
