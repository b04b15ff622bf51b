-- Searches over lists of numbers: what is come to from some numbers, over those alone that are let in.
use Rattle.std.specs.Prelude.{◌≡◌, ◌⊎◌, ℕ, ◌<◌, ◌≤◌, Bool, true, false, not, List, Some, slice_get}
use Rattle.std.specs.List.{Contains}
use Rattle.jr_places.specs.declared.stamps.Stamps.{Stamps}
use Rattle.jr_places.specs.Stamps.{is_stamped, IsStamping}
use Rattle.jr_flow.specs.declared.links.Links.{Links}
use Rattle.jr_flow.specs.declared.search.Search.{Search}
use Rattle.jr_flow.specs.Linked.{items_in, first_of}

-- ---- what a search finds

-- the numbers that a set lets in: those in it, or those that are not
abbrev pub lets : Stamps → Bool → ℕ → Bool
lets set true x = is_stamped set x
lets set false x = not (is_stamped set x)

-- a number is come to: it stands in the list where the search begins, or in that of a number that is come to, and is let in
pub data IsCome (starts : List (ℕ × ℕ)) (key : ℕ) (links : List (ℕ × ℕ)) (enters : ℕ → Bool) : ℕ → Type 0 where
  begin : {x : ℕ} → Contains starts (key, x) → enters x ≡ true → IsCome starts key links enters x
  on : {k x : ℕ} → IsCome starts key links enters k → Contains links (k, x) → enters x ≡ true → IsCome starts key links enters x

-- ---- how it finds them

abbrev pub found_in : Search → List ℕ
found_in search = search.found.items

-- what was found is what was met
pub record IsMet (bound : ℕ) (search : Search) : Type 0 where
  pub counted : IsStamping search.met bound
  pub met : (x : ℕ) → Contains (found_in search) x → is_stamped search.met x ≡ true
  pub only : (x : ℕ) → is_stamped search.met x ≡ true → Contains (found_in search) x

-- nothing was found yet
pub record IsNew (bound : ℕ) (search : Search) : Type 0 where
  pub is : IsMet bound search
  pub none : (x : ℕ) → Contains (found_in search) x → ⊥

-- what was found before stands at its place
abbrev pub KeepsFound : Search → Search → Type 0
KeepsFound old new = (i x : ℕ) → slice_get (found_in old) i ≡ Some x → slice_get (found_in new) i ≡ Some x

-- the number is found, if it is let in
pub record Enters (bound : ℕ) (enters : ℕ → Bool) (old new : Search) (x : ℕ) : Type 0 where
  pub is : IsMet bound new
  pub kept : KeepsFound old new
  pub only : (y : ℕ) → Contains (found_in new) y → Contains (found_in old) y ⊎ ((x ≡ y) × (enters y ≡ true))
  pub has : enters x ≡ true → x < bound → Contains (found_in new) x

-- so are those of the list of a number that stand before an item
pub record EntersBefore (bound : ℕ) (enters : ℕ → Bool) (old new : Search) (all : List (ℕ × ℕ)) (links : Links) (key stop : ℕ) : Type 0 where
  pub is : IsMet bound new
  pub kept : KeepsFound old new
  pub only : (y : ℕ) → Contains (found_in new) y → Contains (found_in old) y ⊎ (Contains all (key, y) × (enters y ≡ true))
  pub has : (i y : ℕ) → first_of links key ≤ i → i < stop → slice_get (items_in links) i ≡ Some y → enters y ≡ true → y < bound → Contains (found_in new) y

-- so are all of the list of a number
pub record EntersAll (bound : ℕ) (enters : ℕ → Bool) (old new : Search) (all : List (ℕ × ℕ)) (key : ℕ) : Type 0 where
  pub is : IsMet bound new
  pub kept : KeepsFound old new
  pub only : (y : ℕ) → Contains (found_in new) y → Contains (found_in old) y ⊎ (Contains all (key, y) × (enters y ≡ true))
  pub every : (y : ℕ) → Contains all (key, y) → enters y ≡ true → y < bound → Contains (found_in new) y

-- the lists of so many of the numbers found were searched
pub record IsSearched (bound : ℕ) (enters : ℕ → Bool) (starts : List (ℕ × ℕ)) (key : ℕ) (links : List (ℕ × ℕ)) (search : Search) (n : ℕ) : Type 0 where
  pub is : IsMet bound search
  pub only : (x : ℕ) → Contains (found_in search) x → IsCome starts key links enters x
  pub begun : (x : ℕ) → Contains starts (key, x) → enters x ≡ true → x < bound → Contains (found_in search) x
  pub closed : (i k x : ℕ) → i < n → slice_get (found_in search) i ≡ Some k → Contains links (k, x) → enters x ≡ true → x < bound → Contains (found_in search) x

-- all numbers below the bound that are come to over numbers below it are found, and no others
pub record HasCome (bound : ℕ) (enters : ℕ → Bool) (starts : List (ℕ × ℕ)) (key : ℕ) (links : List (ℕ × ℕ)) (search : Search) : Type 0 where
  pub is : IsMet bound search
  pub only : (x : ℕ) → Contains (found_in search) x → IsCome starts key links enters x
  pub begun : (x : ℕ) → Contains starts (key, x) → enters x ≡ true → x < bound → Contains (found_in search) x
  pub closed : (k x : ℕ) → Contains (found_in search) k → Contains links (k, x) → enters x ≡ true → x < bound → Contains (found_in search) x
