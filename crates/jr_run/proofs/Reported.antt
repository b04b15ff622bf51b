-- The report of a run, part by part.
use Rattle.std.proofs.Common.{◌≡◌, sym, ◌∙◌, ap, ℕ, List, [], ◌++◌, append_assoc, append-nil, Option, Some, None}
use Rattle.std.specs.Option.{option_map_or}

-- what is added behind what was added
pub added_twice : (old mid new a b : List ℕ) → mid ≡ old ++ a → new ≡ mid ++ b → new ≡ old ++ (a ++ b)
added_twice old mid new a b first second = second ∙ ap (λ xs. xs ++ b) first ∙ append_assoc old a b

pub added_none : (old : List ℕ) (f : ℕ → List ℕ) (found : Option ℕ) → found ≡ None → old ≡ old ++ option_map_or f found []
added_none old f found none = sym (ap (λ o. old ++ option_map_or f o []) none ∙ append-nil old)

pub text_there : (f : ℕ → List ℕ) (found : Option ℕ) (n : ℕ) → found ≡ Some n → f n ≡ option_map_or f found []
text_there f found n some = sym (ap (λ o. option_map_or f o []) some)
