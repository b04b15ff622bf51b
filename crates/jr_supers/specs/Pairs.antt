-- Pairs of a type and one above it, each once.
use Rattle.std.specs.Prelude.{◌≡◌, ℕ, Bool, List, [], ◌∷◌, ◌++◌, map, length, is_some, if◌then◌else◌}
use Rattle.jr_places.specs.declared.chains.Entry.{Entry}
use Rattle.jr_places.specs.Chains.{last_under, rows_under}

-- a pair under the key of its lower type alone
abbrev pub lowered : Entry → Entry
lowered e = record { first = e.first; second = 0; row = e.second }

-- the same pairs under both keys
pub record IsPaired (both lower : List Entry) : Type 0 where
  pub same : lower ≡ map lowered both

-- the pair is one of these
abbrev pub has_pair : List Entry → ℕ → ℕ → Bool
has_pair pairs low high = is_some (last_under pairs low high (length pairs))

-- what stands above a type, from the last pair back
abbrev pub uppers : List Entry → ℕ → List ℕ
uppers pairs low = rows_under (map lowered pairs) low 0 (length (map lowered pairs))

abbrev pub with_pair : List Entry → ℕ → ℕ → List Entry
with_pair pairs low high = if has_pair pairs low high then pairs else pairs ++ record { first = low; second = high; row = high } ∷ []

-- a type and each item of a list
abbrev pub with_pairs : List Entry → ℕ → List ℕ → List Entry
with_pairs pairs low [] = pairs
with_pairs pairs low (high ∷ more) = with_pairs (with_pair pairs low high) low more
