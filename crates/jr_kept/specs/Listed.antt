-- Lists of numbers under numbers.
use Rattle.std.specs.Prelude.{ℕ, zero, suc, ◌+◌, ◌-◌, ◌<◌, ◌≤◌, ◌≡◌, if◌then◌else◌, List, [], ◌∷◌, ◌++◌, length, map, nat_lt, slice_index_or}
use Rattle.std.specs.List.{Contains}
use Rattle.jr_kept.specs.declared.lists.Lists.{Lists}

-- one more item at the end of the list at a place
abbrev pub put_at : List (List ℕ) → ℕ → ℕ → List (List ℕ)
put_at [] place item = []
put_at (list ∷ all) zero item = (list ++ item ∷ []) ∷ all
put_at (list ∷ all) (suc place) item = list ∷ put_at all place item

abbrev pub list_at : List (List ℕ) → ℕ → List ℕ
list_at all place = slice_index_or all place []

-- the list under a number, where the first list is under this one
abbrev pub under : List (List ℕ) → ℕ → ℕ → List ℕ
under all first number = if nat_lt number first then [] else list_at all (number - first)

abbrev pub lists_in : Lists → List (List ℕ)
lists_in lists = map (λ list. list.items) lists.lists.items

abbrev pub under_in : Lists → ℕ → List ℕ
under_in lists number = under (lists_in lists) lists.first number

-- under each number from the first on, so many, stand the second numbers of its pairs
pub record AreListed (all : List (List ℕ)) (first count : ℕ) (pairs : List (ℕ × ℕ)) : Type 0 where
  pub size : length all ≡ count
  pub only : (k j : ℕ) → Contains (under all first k) j → Contains pairs (k, j)
  pub every : (k j : ℕ) → Contains pairs (k, j) → first ≤ k → k < first + count → Contains (under all first k) j

pub record IsListing (lists : Lists) (first count : ℕ) (pairs : List (ℕ × ℕ)) : Type 0 where
  pub begins : lists.first ≡ first
  pub listed : AreListed (lists_in lists) first count pairs
