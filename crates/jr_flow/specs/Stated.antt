-- The places that control comes to in a body, and the hops between them.
use Rattle.std.specs.Prelude.{◌≡◌, ℕ, ◌<◌, ◌≤◌, List, [], ◌∷◌, ◌++◌, length, map, take, Option, Some, slice_get}
use Rattle.jr_tree.specs.Rows.{Rows, end}
use Rattle.jr_flow_defs.specs.declared.point.Point.{Point}
use Rattle.jr_flow_defs.specs.Meaning.{Meaning}
use Rattle.jr_flow_defs.specs.States.{State, at, hops}
use Rattle.jr_flow_defs.specs.Paths.{IsReached}
use Rattle.jr_flow_defs.specs.Edges.{point_by, body_flow}
use Rattle.jr_flow.specs.declared.leaving.State as code
use Rattle.jr_flow.specs.declared.leaving.Way.{Way}
use Rattle.jr_flow.specs.declared.hops.Hop as code_hop
use Rattle.jr_flow.specs.declared.pending.Pending.{Pending}
use Rattle.jr_flow.specs.declared.states.States.{States}
use Rattle.jr_flow.specs.Places.{moment_seen, state_seen, ways_seen}
use Rattle.jr_flow.specs.Pended.{lists_of, IsPending}
use Rattle.jr_flow.specs.Located.{states_in, AreLocations}
use Rattle.jr_flow.specs.Grouped.{hop_seen, AreGrouped}
use Rattle.jr_flow.specs.Numbered.{ArePointed}
use Rattle.jr_flow.specs.Explored.{AreHops}

abbrev pub states_of : States → List code.State
states_of states = states_in states.locations

-- the places, as the definitions have them
abbrev pub places_of : States → List State
places_of states = map (state_seen (lists_of states.pending)) (states_of states)

abbrev pub point_of : Rows → Meaning → ℕ → code.State → Option Point
point_of p m body a = point_by (moment_seen a.moment) p m body a.row

-- control comes to the place, which stands in the body, with a list that there is
pub record IsPlaced (p : Rows) (m : Meaning) (body : ℕ) (pending : Pending) (a : code.State) : Type 0 where
  pub fits : a.list ≤ length (lists_of pending)
  pub from : body ≤ a.row
  pub to : a.row < end p body
  pub reached : IsReached (body_flow p m body) (state_seen (lists_of pending) a)

-- control comes to where each of the ways leads
abbrev pub AreWaysReached : Rows → Meaning → ℕ → Pending → List Way → Type 0
AreWaysReached p m body pending ways = (k : ℕ) (way : Way) → slice_get ways k ≡ Some way → IsReached (body_flow p m body) (state_seen (lists_of pending) way.to)

-- the places are such, each has its number, and so has each point
pub record AreStates (p : Rows) (m : Meaning) (body : ℕ) (states : States) : Type 0 where
  pub pending : IsPending states.pending
  pub located : AreLocations states.locations
  pub placed : (i : ℕ) (a : code.State) → slice_get (states_of states) i ≡ Some a → IsPlaced p m body states.pending a
  pub pointed : ArePointed body states.numbering (map (point_of p m body) (states_of states))

-- there is no place yet
pub record AreBegun (body : ℕ) (states : States) : Type 0 where
  pub pending : IsPending states.pending
  pub located : AreLocations states.locations
  pub none : states_of states ≡ []
  pub pointed : ArePointed body states.numbering []
  pub grouped : AreGrouped states.hops []

-- the places keep their numbers
abbrev pub KeepsStates : States → States → Type 0
KeepsStates old new = (i : ℕ) (a : code.State) → slice_get (states_of old) i ≡ Some a → slice_get (states_of new) i ≡ Some a

-- the place has this number
pub record HasNumber (p : Rows) (m : Meaning) (body : ℕ) (old new : States) (a : code.State) (n : ℕ) : Type 0 where
  pub right : AreStates p m body new
  pub kept : KeepsStates old new
  pub stands : slice_get (states_of new) n ≡ Some a
  pub pending : new.pending ≡ old.pending
  pub hops : new.hops ≡ old.hops

-- the hops of each place are those to the places of their numbers
abbrev pub HaveHops : Rows → Meaning → ℕ → States → List (List code_hop.Hop) → Type 0
HaveHops p m body states groups = (i : ℕ) (a : code.State) (group : List code_hop.Hop) → slice_get (states_of states) i ≡ Some a → slice_get groups i ≡ Some group
    → AreHops (places_of states) (hops p m body (state_seen (lists_of states.pending) a)) (map hop_seen group)

pub record AreTurned (p : Rows) (m : Meaning) (body : ℕ) (states : States) (groups : List (List code_hop.Hop)) : Type 0 where
  pub right : AreStates p m body states
  pub grouped : AreGrouped states.hops groups
  pub hops_are : HaveHops p m body states groups

-- of these ways so many are among the hops of the last group
pub record AreNoted (p : Rows) (m : Meaning) (body : ℕ) (old states : States) (groups : List (List code_hop.Hop)) (ways : List Way) (n : ℕ) : Type 0 where
  pub group : List code_hop.Hop
  pub pending : states.pending ≡ old.pending
  pub kept : KeepsStates old states
  pub few : length groups ≤ length (states_of states)
  pub right : AreStates p m body states
  pub grouped : AreGrouped states.hops (groups ++ group ∷ [])
  pub hops_are : HaveHops p m body states groups
  pub last : AreHops (places_of states) (take n (ways_seen (lists_of states.pending) ways)) (map hop_seen group)

-- so many places have their hops
pub record IsExploring (p : Rows) (m : Meaning) (body : ℕ) (states : States) (n : ℕ) : Type 0 where
  pub groups : List (List code_hop.Hop)
  pub count : length groups ≡ n
  pub turned : AreTurned p m body states groups
  pub start : slice_get (places_of states) 0 ≡ Some (at body 0 [])
  pub few : n ≤ length (states_of states)

-- one place more has its hops
pub record IsTurned (p : Rows) (m : Meaning) (body : ℕ) (old new : States) (groups : List (List code_hop.Hop)) : Type 0 where
  pub group : List code_hop.Hop
  pub turned : AreTurned p m body new (groups ++ group ∷ [])
  pub kept : (i : ℕ) (a : State) → slice_get (places_of old) i ≡ Some a → slice_get (places_of new) i ≡ Some a
  pub states : KeepsStates old new

-- all places have their hops, and behind them there are none
pub record AreAllTurned (p : Rows) (m : Meaning) (body : ℕ) (states : States) : Type 0 where
  pub groups : List (List code_hop.Hop)
  pub count : length groups ≡ length (states_of states)
  pub right : AreStates p m body states
  pub hops_are : HaveHops p m body states groups
  pub grouped : AreGrouped states.hops (groups ++ [] ∷ [])
  pub start : slice_get (places_of states) 0 ≡ Some (at body 0 [])
