-- The last entry under a key, and the rows under one.
use Rattle.std.specs.Prelude.{◌≡◌, ℕ, zero, suc, ◌<◌, ◌^◌, Bool, ◌&&◌, if◌then◌else◌, List, [], ◌∷◌, ◌++◌, length, Option, Some, None, true, IfSome, nat_eq, slice_index_or}
use Rattle.std.specs.HashMap.{HashMap, get}
use Rattle.jr_plain.specs.Search.{last_below}
use Rattle.jr_places.specs.declared.chains.Entry.{Entry}
use Rattle.jr_places.specs.Tabulated.{tabulated}

abbrev pub entry_at : List Entry → ℕ → Entry
entry_at all n = slice_index_or all n (record { first = 0; second = 0; row = 0 })

-- the entry at a place is under the key
abbrev pub is_under : List Entry → ℕ → ℕ → ℕ → Bool
is_under all first second n = nat_eq (entry_at all n).first first && nat_eq (entry_at all n).second second

-- the place of the last entry under the key, before a place
abbrev pub last_under : List Entry → ℕ → ℕ → ℕ → Option ℕ
last_under all first second n = last_below n (is_under all first second)

-- the place of the last entry under the key of an entry, before it
abbrev pub last_like : List Entry → ℕ → Option ℕ
last_like all n = last_under all (entry_at all n).first (entry_at all n).second n

-- the rows under the key, before a place, from the last back
abbrev pub rows_under : List Entry → ℕ → ℕ → ℕ → List ℕ
rows_under all first second zero = []
rows_under all first second (suc n) = let more = rows_under all first second n in if is_under all first second n then (entry_at all n).row ∷ more else more

-- the rows under the key, from an entry under it back
abbrev pub rows_from : List Entry → ℕ → ℕ → Option ℕ → List ℕ
rows_from all first second None = []
rows_from all first second (Some n) = (entry_at all n).row ∷ rows_under all first second n

-- how many places stand up to one
abbrev pub places_to : Option ℕ → ℕ
places_to None = 0
places_to (Some n) = suc n

-- these are the rows behind a place where the next one stands
pub record WalkedTo (all : List Entry) (first second : ℕ) (at : Option ℕ) (done : List ℕ) : Type 0 where
  pub here : IfSome at (λ n. (n < length all) × (is_under all first second n ≡ true))
  pub rest : done ++ rows_from all first second at ≡ rows_under all first second (length all)

-- two keys are one
abbrev pub same_pair : ℕ × ℕ → ℕ × ℕ → Bool
same_pair a b = nat_eq a.0 b.0 && nat_eq a.1 b.1

-- the last entry under each key, and before each entry
pub record IsChained {S : Type 0} (all : List Entry) (last : HashMap (ℕ × ℕ) ℕ S) (before : List (Option ℕ)) : Type 0 where
  pub few : length all < 2 ^ 32
  pub found : (first second : ℕ) → get same_pair last (first, second) ≡ last_under all first second (length all)
  pub linked : before ≡ tabulated (last_like all) (length all)
