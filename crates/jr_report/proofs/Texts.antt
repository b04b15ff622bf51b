-- Lines of places, one behind another.
use Rattle.std.proofs.Common.{◌≡◌, sym, ◌∙◌, ap, ℕ, List, [], ◌∷◌, ◌++◌, append_assoc, append-nil, map, flat_map}

module _ {A B : Type 0} (f : A → B) where
  pub map_more : (old new : List B) (all left more : List A) (x : A) → left ≡ x ∷ more → new ≡ old ++ f x ∷ [] → old ++ map f left ≡ map f all → new ++ map f more ≡ map f all
  map_more old new all left more x same made so = ap (λ ys. ys ++ map f more) made ∙ append_assoc old (f x ∷ []) (map f more) ∙ ap (λ xs. old ++ map f xs) (sym same) ∙ so

  pub map_end : (old : List B) (all left : List A) → left ≡ [] → old ++ map f left ≡ map f all → old ≡ map f all
  map_end old all left none so = sym (append-nil old) ∙ ap (λ xs. old ++ map f xs) (sym none) ∙ so

module _ {A : Type 0} (f : A → List ℕ) where
  pub lines_more : (old new start : List ℕ) (all left more : List A) (x : A) → left ≡ x ∷ more → new ≡ old ++ f x → old ++ flat_map f left ≡ start ++ flat_map f all → new ++ flat_map f more ≡ start ++ flat_map f all
  lines_more old new start all left more x same made so = ap (λ ys. ys ++ flat_map f more) made ∙ append_assoc old (f x) (flat_map f more) ∙ ap (λ xs. old ++ flat_map f xs) (sym same) ∙ so

  pub lines_end : (old start : List ℕ) (all left : List A) → left ≡ [] → old ++ flat_map f left ≡ start ++ flat_map f all → old ≡ start ++ flat_map f all
  lines_end old start all left none so = sym (append-nil old) ∙ ap (λ xs. old ++ flat_map f xs) (sym none) ∙ so
