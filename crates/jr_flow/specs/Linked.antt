-- Lists of numbers by number, one behind the other.
use Rattle.std.specs.Prelude.{◌≡◌, ◌⊎◌, ℕ, ◌+◌, ◌<◌, ◌≤◌, List, length, Some, slice_get, unwrap_or}
use Rattle.std.specs.List.{Contains}
use Rattle.jr_flow.specs.declared.links.Links.{Links}

abbrev pub firsts_in : Links → List ℕ
firsts_in links = links.firsts.items

abbrev pub items_in : Links → List ℕ
items_in links = links.items.items

-- where the list of a number begins
abbrev pub first_of : Links → ℕ → ℕ
first_of links k = unwrap_or (slice_get (firsts_in links) k) (length (items_in links))

-- the item stands in the list of the number
pub record HasItem (links : Links) (k x : ℕ) : Type 0 where
  pub nth : ℕ
  pub from : first_of links k ≤ nth
  pub to : nth < first_of links (k + 1)
  pub stands : slice_get (items_in links) nth ≡ Some x

-- the list of each first number has the second ones
pub record AreLinked (all : List (ℕ × ℕ)) (links : Links) : Type 0 where
  pub only : (k x : ℕ) → HasItem links k x → Contains all (k, x)
  pub every : (k x : ℕ) → Contains all (k, x) → HasItem links k x

-- ---- how they are written

-- the lists up to that of the number have begun, the new ones at this item
pub record HaveBegun (old new : List ℕ) (number item : ℕ) : Type 0 where
  pub kept : (k first : ℕ) → slice_get old k ≡ Some first → slice_get new k ≡ Some first
  pub only : (k first : ℕ) → slice_get new k ≡ Some first → (slice_get old k ≡ Some first) ⊎ ((first ≡ item) × (length old ≤ k) × (k ≤ number))
  pub longer : length old ≤ length new

-- so many pairs, which rise by their first numbers, are in the lists
pub record AreFilled (all : List (ℕ × ℕ)) (n : ℕ) (links : Links) : Type 0 where
  pub count : length (items_in links) ≡ n
  pub items : (i : ℕ) (x : ℕ × ℕ) → i < n → slice_get all i ≡ Some x → slice_get (items_in links) i ≡ Some x.1
  pub within : (k first : ℕ) → slice_get (firsts_in links) k ≡ Some first → first ≤ n
  pub before : (k first i : ℕ) (x : ℕ × ℕ) → slice_get (firsts_in links) k ≡ Some first → i < first → i < n → slice_get all i ≡ Some x → x.0 < k
  pub behind : (k first i : ℕ) (x : ℕ × ℕ) → slice_get (firsts_in links) k ≡ Some first → first ≤ i → i < n → slice_get all i ≡ Some x → k ≤ x.0
  pub begun : (i : ℕ) (x : ℕ × ℕ) → i < n → slice_get all i ≡ Some x → x.0 < length (firsts_in links)
  pub needed : (k i : ℕ) (x : ℕ × ℕ) → k < length (firsts_in links) → n ≤ i → slice_get all i ≡ Some x → k ≤ x.0
