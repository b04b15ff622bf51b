-- Searches over numbers and lists, and the least set that holds all that follows from it.
use Rattle.std.specs.Prelude.{◌≡◌, ℕ, zero, suc, ◌≤◌, ◌<◌, Bool, true, false, not, ◌&&◌, ◌||◌, if◌then◌else◌, List, [], ◌∷◌, ◌++◌, length, filter, Option, Some, None, nat_eq, Decides}
use Rattle.std.specs.List.{list_any}
use Rattle.std.specs.Option.{option_or}

-- ---- below a number

-- some number below n passes
abbrev pub any_below : ℕ → (ℕ → Bool) → Bool
any_below zero test = false
any_below (suc n) test = let last = test n in any_below n test || last

-- each number below n passes
abbrev pub all_below : ℕ → (ℕ → Bool) → Bool
all_below zero test = true
all_below (suc n) test = let last = test n in all_below n test && last

-- the first number below n that passes
abbrev pub first_below : ℕ → (ℕ → Bool) → Option ℕ
first_below zero test = None
first_below (suc n) test = let last = if test n then Some n else None in option_or (first_below n test) last

-- the last number below n that passes
abbrev pub last_below : ℕ → (ℕ → Bool) → Option ℕ
last_below zero test = None
last_below (suc n) test = let before = last_below n test in if test n then Some n else before

-- the numbers below n that pass, as they rise
abbrev pub all_such : ℕ → (ℕ → Bool) → List ℕ
all_such zero test = []
all_such (suc n) test = all_such n test ++ (if test n then n ∷ [] else [])

-- the items that each number below n has, in their order
abbrev pub gathered : {A : Type 0} → ℕ → (ℕ → List A) → List A
gathered zero of = []
gathered (suc n) of = gathered n of ++ of n

-- the numbers below n
abbrev pub numbers : ℕ → List ℕ
numbers n = all_such n (λ k. true)

-- ---- lists

-- x is an item
abbrev pub among : {A : Type 0} → (A → A → Bool) → List A → A → Bool
among same items x = list_any (λ y. same y x) items

abbrev pub has : List ℕ → ℕ → Bool
has = among nat_eq

-- the list has the numbers of which P holds
abbrev pub Lists : List ℕ → (ℕ → Type 0) → Type 0
Lists items P = (x : ℕ) → Decides (has items x) (P x)

-- what is found is the one of which P holds
abbrev pub Finds : {A : Type 0} → Option A → (A → Type 0) → Type 0
Finds {A} found P = (x : A) → (found ≡ Some x → P x) × (P x → found ≡ Some x)

-- k is the first, or the last, number below n of which P holds
abbrev pub IsFirst : (ℕ → Type 0) → ℕ → ℕ → Type 0
IsFirst P n k = (k < n) × P k × ((j : ℕ) → P j → k ≤ j)

abbrev pub IsLast : (ℕ → Type 0) → ℕ → ℕ → Type 0
IsLast P n k = (k < n) × P k × ((j : ℕ) → j < n → P j → j ≤ k)

-- ---- least sets

-- one of two, by whether a list has no items
abbrev pub if_empty : {A B : Type 0} → List A → B → B → B
if_empty [] x y = x
if_empty (a ∷ more) x y = y

module _ {A : Type 0} (same : A → A → Bool) (all : List A) (follows : List A → A → Bool) where
  -- the items that follow from a set and are not in it
  abbrev pub news : List A → List A
  news set = filter (λ x. follows set x && not (among same set x)) all

  -- the set grows by what follows from it, until nothing new does, or so many times
  abbrev pub grown : ℕ → List A → List A
  grown zero set = set
  grown (suc rounds) set = let new = news set in let more = grown rounds (set ++ new) in if_empty new set more

  -- the least set that has all items that follow from it
  abbrev pub least : List A
  least = grown (length all) []

-- the least set of numbers below n that has all that follow from it
abbrev pub least_below : ℕ → (List ℕ → ℕ → Bool) → List ℕ
least_below n follows = least nat_eq (numbers n) follows

-- b is reached from a by one edge or more
pub data Reaches (E : ℕ → ℕ → Type 0) : ℕ → ℕ → Type 0 where
  direct : {a b : ℕ} → E a b → Reaches E a b
  further : {a r b : ℕ} → E a r → Reaches E r b → Reaches E a b

-- the numbers below n from which b is reached
abbrev pub sources : ℕ → (ℕ → ℕ → Bool) → ℕ → List ℕ
sources n edge b = least_below n (λ set a. edge a b || any_below n (λ r. edge a r && has set r))

abbrev pub reaches : ℕ → (ℕ → ℕ → Bool) → ℕ → ℕ → Bool
reaches n edge a b = has (sources n edge b) a
