-- Numbers of lists of numbers, one to one.
use Rattle.std.specs.Prelude.{◌≡◌, ℕ, ◌≤◌, List, [], ◌∷◌, Option, Some}
use Rattle.std.specs.HashMap.{get}
use Rattle.jr_places.specs.declared.numbering.Numbering.{Numbering}
use Rattle.jr_places.specs.Chains.{same_pair}

-- the number of a list with one item more, by that of the list
abbrev pub number_in : Numbering → ℕ → ℕ → Option ℕ
number_in numbers list item = get same_pair numbers.steps (list, item)

-- each list with an item has a number of its own, and the empty list alone has 0
pub record IsOneToOne (numbers : ℕ → ℕ → Option ℕ) : Type 0 where
  pub above : (list item : ℕ) → numbers list item ≡ Some 0 → ⊥
  pub one : (list item other more n : ℕ) → numbers list item ≡ Some n → numbers other more ≡ Some n → (list ≡ other) × (item ≡ more)

-- the numbers up to a count are in use
pub record AreCounted (numbers : ℕ → ℕ → Option ℕ) (count : ℕ) : Type 0 where
  pub one : IsOneToOne numbers
  pub few : (list item n : ℕ) → numbers list item ≡ Some n → n ≤ count

abbrev pub IsNumbering : Numbering → Type 0
IsNumbering numbers = AreCounted (number_in numbers) numbers.count

-- all lists keep their numbers
abbrev pub Keeps : Numbering → Numbering → Type 0
Keeps old new = (list item n : ℕ) → number_in old list item ≡ Some n → number_in new list item ≡ Some n

-- the list with the item has this number, and all that had one keep it
pub record Adds (old new : Numbering) (list item n : ℕ) : Type 0 where
  pub has : number_in new list item ≡ Some n
  pub kept : Keeps old new
  pub counted : IsNumbering new

-- the number of a list, whose items stand from the last back
pub data IsNumberOf (numbers : ℕ → ℕ → Option ℕ) : ℕ → List ℕ → Type 0 where
  empty : IsNumberOf numbers 0 []
  more : {list item n : ℕ} {before : List ℕ} → IsNumberOf numbers list before → numbers list item ≡ Some n → IsNumberOf numbers n (item ∷ before)
