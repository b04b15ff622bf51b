-- Places of control, each with a number.
use Rattle.std.specs.Prelude.{◌≡◌, ℕ, List, [], ◌∷◌, ◌++◌, length, Option, Some, slice_get}
use Rattle.std.specs.HashMap.{get}
use Rattle.jr_flow.specs.declared.leaving.State.{State}
use Rattle.jr_flow.specs.declared.locations.Locations.{Locations}
use Rattle.jr_flow.specs.Keys.{state_key, same_state}

abbrev pub states_in : Locations → List State
states_in locations = locations.all.items

-- the number that a place has by the table
abbrev pub number_at : Locations → State → Option ℕ
number_at locations a = get same_state locations.numbers (state_key a)

-- the table has the number of each place
pub record AreLocations (locations : Locations) : Type 0 where
  pub stands : (a : State) (n : ℕ) → number_at locations a ≡ Some n → slice_get (states_in locations) n ≡ Some a
  pub known : (a : State) (n : ℕ) → slice_get (states_in locations) n ≡ Some a → number_at locations a ≡ Some n

-- the place is the last one, and has this number
pub record AddsState (old new : Locations) (a : State) (n : ℕ) : Type 0 where
  pub right : AreLocations new
  pub states : states_in new ≡ states_in old ++ a ∷ []
  pub last : n ≡ length (states_in old)
