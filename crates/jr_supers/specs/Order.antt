-- An order of types in which supertypes come first.
use Rattle.std.specs.Prelude.{◌≡◌, ◌⊎◌, ℕ, zero, suc, ◌+◌, ◌<◌, Bool, true, false, ◌&&◌, if◌then◌else◌, List, [], ◌∷◌, ◌++◌, length, nat_eq, slice_index_or, slice_set, ⊤}
use Rattle.std.specs.List.{list_any}
use Rattle.jr_tree.specs.Rows.{Rows}
use Rattle.jr_defs.specs.Declarations.{IsType}
use Rattle.jr_plain.specs.Search.{has, Reaches}
use Rattle.jr_plain.specs.Declarations.{is_type}
use Rattle.jr_places.specs.declared.chains.Entry.{Entry}
use Rattle.jr_supers.specs.declared.ordering.Open.{Open}
use Rattle.jr_supers.specs.Direct.{supers_in}

-- s is a supertype of c by these entries
abbrev pub IsSuperIn : List Entry → ℕ → ℕ → Type 0
IsSuperIn supers c s = has (supers_in supers c) s ≡ true

abbrev pub HasNoLoop : List Entry → Type 0
HasNoLoop supers = (c : ℕ) → Reaches (IsSuperIn supers) c c → ⊥

-- each type stands behind its supertypes that are types
abbrev pub AreBehind : Rows → List Entry → List ℕ → List ℕ → Type 0
AreBehind p supers done [] = ⊤
AreBehind p supers done (c ∷ more) = IsType p c × ((s : ℕ) → IsSuperIn supers c s → IsType p s → has done s ≡ true) × AreBehind p supers (c ∷ done) more

pub record IsOrderOf (p : Rows) (supers : List Entry) (order : List ℕ) : Type 0 where
  pub behind : AreBehind p supers [] order
  pub all : (c : ℕ) → IsType p c → has order c ≡ true

-- ---- the search

-- the types that were entered, those that are to be entered or left, the last first, and those that were left
pub record Search : Type 0 where
  pub met : List Bool
  pub open_types : List Open
  pub order : List ℕ

-- the number was met, or there is none so large
abbrev pub is_met : List Bool → ℕ → Bool
is_met met c = slice_index_or met c true

abbrev pub enters : ℕ → Open
enters c = record { at = c; leaves = false }

abbrev pub leaves_it : ℕ → Open
leaves_it c = record { at = c; leaves = true }

-- the types of a list
abbrev pub entering : Rows → List ℕ → List Open
entering p [] = []
entering p (s ∷ more) = (if is_type p s then enters s ∷ [] else []) ++ entering p more

abbrev pub enter : Rows → List Entry → ℕ → Search → Search
enter p supers c search = record { met = slice_set search.met c true; open_types = search.open_types ++ leaves_it c ∷ [] ++ entering p (supers_in supers c); order = search.order }

abbrev pub leave : ℕ → Search → Search
leave c search = record { met = search.met; open_types = search.open_types; order = search.order ++ c ∷ [] }

-- what is done with the last one
abbrev pub step : Rows → List Entry → Open → Search → Search
step p supers top search = if top.leaves then leave top.at search else (if is_met search.met top.at then search else enter p supers top.at search)

-- ---- what holds on the way

-- the type is to be entered or left; it is to be left
abbrev pub is_open : List Open → ℕ → Bool
is_open all c = list_any (λ o. nat_eq o.at c) all

abbrev pub is_entered : List Open → ℕ → Bool
is_entered all c = list_any (λ o. nat_eq o.at c && o.leaves) all

-- what stands behind a type that is to be left is above it, and all its supertypes stand there or are in the order
abbrev pub IsPath : Rows → List Entry → List ℕ → List Open → Type 0
IsPath p supers order [] = ⊤
IsPath p supers order (o ∷ over) =
    (o.leaves ≡ true → ((y : ℕ) → is_open over y ≡ true → Reaches (IsSuperIn supers) o.at y) × ((s : ℕ) → IsSuperIn supers o.at s → IsType p s → (has order s ≡ true) ⊎ (is_open over s ≡ true)))
    × IsPath p supers order over

pub record IsSearching (p : Rows) (supers : List Entry) (search : Search) : Type 0 where
  pub size : length search.met ≡ length p
  pub types : (c : ℕ) → is_open search.open_types c ≡ true → IsType p c
  pub met : (c : ℕ) → c < length p → is_met search.met c ≡ true → (has search.order c ≡ true) ⊎ (is_entered search.open_types c ≡ true)
  pub behind : AreBehind p supers [] search.order
  pub path : IsPath p supers search.order search.open_types
  pub all : (c : ℕ) → IsType p c → (has search.order c ≡ true) ⊎ (is_open search.open_types c ≡ true)

-- ---- the turns that are left

-- what entering a type adds, once
abbrev pub turns_at : Rows → List Entry → Bool → ℕ → ℕ
turns_at p supers true c = 0
turns_at p supers false c = suc (length (entering p (supers_in supers c)))

abbrev pub turns_below : Rows → List Entry → List Bool → ℕ → ℕ
turns_below p supers met zero = 0
turns_below p supers met (suc n) = turns_below p supers met n + turns_at p supers (is_met met n) n

-- a turn for each open type, and those that the types add that are not met yet
abbrev pub turns_left : Rows → List Entry → List Bool → List Open → ℕ
turns_left p supers met open_types = length open_types + turns_below p supers met (length met)

abbrev pub searching : List Bool → List Open → List ℕ → Search
searching met open_types order = record { met = met; open_types = open_types; order = order }
