-- One row more of the tables of units and top-level types.
use Rattle.std.proofs.Common.{◌≡◌, ◌∙◌, ap, ap₂, ◌∷◌, ◌++◌, [], add-one, ℕ, ◌+◌, List, Option}
use Rattle.jr_tree.specs.Rows.{Rows}
use Rattle.jr_places.specs.Units.{unit_by, units, top_by, tops}

pub unit_more : (p : Rows) (n : ℕ) (all known more : List (Option ℕ)) (x : Option ℕ) → all ≡ units p n → known ≡ all → x ≡ unit_by p known n → more ≡ all ++ x ∷ [] → more ≡ units p (n + 1)
unit_more p n all known more x h same is pushed = rw add-one (pushed ∙ ap₂ (λ xs x. xs ++ x ∷ []) h (is ∙ ap (λ xs. unit_by p xs n) (same ∙ h)))

pub top_more : (p : Rows) (n : ℕ) (all known more : List (Option ℕ)) (x : Option ℕ) → all ≡ tops p n → known ≡ all → x ≡ top_by p known n → more ≡ all ++ x ∷ [] → more ≡ tops p (n + 1)
top_more p n all known more x h same is pushed = rw add-one (pushed ∙ ap₂ (λ xs x. xs ++ x ∷ []) h (is ∙ ap (λ xs. top_by p xs n) (same ∙ h)))
