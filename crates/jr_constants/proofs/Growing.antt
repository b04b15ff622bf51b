-- Texts that are added to others.
use Rattle.std.proofs.Common.{◌≡◌, refl, ◌∙◌, ap, arith, ℕ, ◌<◌, List, [], ◌∷◌, ◌++◌, length, length-append}
use Rattle.jr_constants.specs.Tables.{IsGrown}

append_none : (texts : List (List ℕ)) → texts ≡ texts ++ []
append_none [] = refl
append_none (x ∷ xs) = ap (λ ys. x ∷ ys) (append_none xs)

pub same_grown : (texts : List (List ℕ)) → IsGrown texts texts
same_grown texts = ([], append_none texts)

pub added_in : (old new : List (List ℕ)) (units : List ℕ) (number : ℕ) → new ≡ old ++ units ∷ [] → number ≡ length old → number < length new
added_in old new units number e f = let g = ap length e ∙ length-append old (units ∷ []) in omega arith
