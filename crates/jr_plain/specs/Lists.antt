-- Lists made of lists, and one list in place of another.
use Rattle.std.specs.Prelude.{ℕ, Bool, List, map, Option, Decides}
use Rattle.jr_plain.specs.Search.{among, if_empty}

-- the list has the items of which P holds
abbrev pub Has : {A : Type 0} → (A → A → Bool) → List A → (A → Type 0) → Type 0
Has {A} same items P = (x : A) → Decides (among same items x) (P x)

-- the first list, or the second where the first has no items
abbrev pub or_else : {A : Type 0} → List A → List A → List A
or_else first second = if_empty first second first

-- declarations, all found through one level
abbrev pub at_level : Option ℕ → List ℕ → List (ℕ × Option ℕ)
at_level level rows = map (λ d. (d, level)) rows
