-- Numbers, each once, in the order in which they are found.
use Rattle.std.specs.Prelude.{◌≡◌, ℕ, if◌then◌else◌, List, [], ◌∷◌, ◌++◌}
use Rattle.jr_plain.specs.Search.{has}
use Rattle.jr_places.specs.declared.chains.Entry.{Entry}
use Rattle.jr_supers.specs.Pairs.{has_pair}

-- the numbers and one more, unless it is one of these
abbrev pub with_item : List ℕ → ℕ → List ℕ
with_item all x = if has all x then all else all ++ x ∷ []

-- the numbers and each of a list
abbrev pub with_items : List ℕ → List ℕ → List ℕ
with_items all [] = all
with_items all (x ∷ more) = with_items (with_item all x) more

-- the same numbers stand under keys
pub record IsFound (seen : List Entry) (all : List ℕ) : Type 0 where
  pub same : (x : ℕ) → has_pair seen 0 x ≡ has all x
