-- The search for the steps between points, by the numbers of places.
use Rattle.std.specs.Prelude.{◌≡◌, ◌⊎◌, ℕ, zero, suc, ◌+◌, ◌-◌, ◌<◌, ◌≤◌, ◌^◌, Bool, true, false, not, if◌then◌else◌, List, [], ◌∷◌, ◌++◌, length, map, Option, Some, None, option_and_then, unwrap_or, slice_get}
use Rattle.std.specs.List.{Contains}
use Rattle.jr_flow_defs.specs.States.{Hop}
use Rattle.jr_flow_defs.specs.Paths.{Flow, Goes, IsPoint, Onward, Steps}
use Rattle.jr_flow_defs.specs.Graphs.{StepList}
use Rattle.jr_places.specs.declared.stamps.Stamps.{Stamps}
use Rattle.jr_places.specs.Stamps.{is_stamped, IsStamping}
use Rattle.jr_flow.specs.declared.hops.Hop as code_hop
use Rattle.jr_flow.specs.declared.states.States.{States}
use Rattle.jr_flow.specs.declared.drawing.Walk.{Walk}
use Rattle.jr_flow.specs.declared.drawing.Source.{Source}
use Rattle.jr_flow.specs.Reached.{step_seen}
use Rattle.jr_flow.specs.Located.{states_in}
use Rattle.jr_flow.specs.Grouped.{firsts_of, hops_in, hop_seen}
use Rattle.jr_flow.specs.Numbered.{numbers_in, same_number}
use Rattle.jr_flow.specs.Explored.{HasNumberedStep}

-- ---- what is read of the places

abbrev pub first_at : States → ℕ → ℕ
first_at states i = unwrap_or (slice_get (firsts_of states.hops) i) 0

abbrev pub hop_then : Option code_hop.Hop → List (Hop ℕ) → List (Hop ℕ)
hop_then None rest = rest
hop_then (Some h) rest = hop_seen h ∷ rest

-- the hops from the number k on, so many
abbrev pub hops_from : List code_hop.Hop → ℕ → ℕ → List (Hop ℕ)
hops_from all k zero = []
hops_from all k (suc count) = hop_then (slice_get all k) (hops_from all (k + 1) count)

abbrev pub hops_at : States → ℕ → List (Hop ℕ)
hops_at states i = hops_from (hops_in states.hops) (first_at states i) (first_at states (i + 1) - first_at states i)

-- the number of the point at a place
abbrev pub number_in : States → ℕ → Option ℕ
number_in states i = option_and_then same_number (slice_get (numbers_in states.numbering) i)

-- the flow over numbers has these hops and points
pub record IsFlowOf (states : States) (g : Flow ℕ) : Type 0 where
  pub hops_are : (i : ℕ) → i < length (states_in states.locations) → g.hops i ≡ hops_at states i
  pub points : (i : ℕ) → IsPoint g i → (k : ℕ) × (number_in states i ≡ Some k)
  pub numbered : (i k : ℕ) → number_in states i ≡ Some k → IsPoint g i
  pub inside : (i r : ℕ) → i < length (states_in states.locations) → Goes g i r → r < length (states_in states.locations)

-- ---- chains of places that are no points

-- control comes from i to the point at b over so many hops, and over no other point
pub data OnwardIn (g : Flow ℕ) : ℕ → ℕ → ℕ → Type 0 where
  at : {i : ℕ} → IsPoint g i → OnwardIn g zero i i
  on : {n i r b : ℕ} → (IsPoint g i → ⊥) → Goes g i r → OnwardIn g n r b → OnwardIn g (suc n) i b

pub record NoLonger (g : Flow ℕ) (n i b : ℕ) : Type 0 where
  pub hops : ℕ
  pub few : hops ≤ n
  pub onward : OnwardIn g hops i b

-- all ways from i to points go by e
pub record LeadsTo (g : Flow ℕ) (i e : ℕ) : Type 0 where
  pub on : (n b : ℕ) → OnwardIn g n i b → NoLonger g n e b
  pub back : (b : ℕ) → Onward g e b → Onward g i b

-- the place is one by which all ways from i go
pub record IsEnd (states : States) (g : Flow ℕ) (i e : ℕ) : Type 0 where
  pub leads : LeadsTo g i e
  pub inside : e < length (states_in states.locations)

-- for each place one by which all ways go
pub record AreEnds (states : States) (g : Flow ℕ) (ends : List ℕ) : Type 0 where
  pub leads : (i e : ℕ) → slice_get ends i ≡ Some e → LeadsTo g i e
  pub inside : (i e : ℕ) → slice_get ends i ≡ Some e → e < length (states_in states.locations)

-- ---- what is open

abbrev pub such : Bool → Bool → Bool
such true is_throw = is_throw
such false is_throw = not is_throw

abbrev pub end_in : List ℕ → ℕ → ℕ
end_in ends i = unwrap_or (slice_get ends i) i

-- the ends of the hops of one kind
abbrev pub opened : List ℕ → Bool → List (Hop ℕ) → List ℕ
opened ends is_throw [] = []
opened ends is_throw (h ∷ hs) = (if such is_throw h.is_throw then end_in ends h.to ∷ [] else []) ++ opened ends is_throw hs

abbrev pub IsMetOrOpen : Stamps → List ℕ → ℕ → Type 0
IsMetOrOpen met open_ones k = (is_stamped met k ≡ true) ⊎ Contains open_ones k

abbrev pub AreSound : Flow ℕ → (ℕ → Option ℕ) → StepList → Type 0
AreSound g number steps = (m n : ℕ) (is_throw : Bool) → Contains steps (m, n, is_throw) → HasNumberedStep g number m n is_throw

-- the search from the point m, which stands at the place i, for the steps that are throws, or for the others
pub record IsWalking (states : States) (g : Flow ℕ) (ends : List ℕ) (i m : ℕ) (is_throw : Bool) (old : StepList) (met : Stamps) (open_ones : List ℕ) (steps : StepList) : Type 0 where
  pub counted : IsStamping met (length (states_in states.locations))
  pub points : (k j : ℕ) → is_stamped met k ≡ true → number_in states k ≡ Some j → Contains steps (m, j, is_throw)
  pub others : (k r : ℕ) → is_stamped met k ≡ true → number_in states k ≡ None → Goes g k r → IsMetOrOpen met open_ones (end_in ends r)
  pub begun : (r : ℕ) → Contains (g.hops i) (record { to = r; is_throw = is_throw }) → IsMetOrOpen met open_ones (end_in ends r)
  pub behind : (o b : ℕ) → Contains open_ones o → Onward g o b → Steps g i b is_throw
  pub inside : (o : ℕ) → Contains open_ones o → o < length (states_in states.locations)
  pub kept : (x : ℕ × ℕ × Bool) → Contains old x → Contains steps x
  pub sound : AreSound g (number_in states) steps

-- all steps of one kind from the point m at the place i are there, and all that were
pub record HasSteps (states : States) (g : Flow ℕ) (i m : ℕ) (is_throw : Bool) (old new : StepList) : Type 0 where
  pub every : (b n : ℕ) → Steps g i b is_throw → number_in states b ≡ Some n → Contains new (m, n, is_throw)
  pub kept : (x : ℕ × ℕ × Bool) → Contains old x → Contains new x
  pub sound : AreSound g (number_in states) new

-- ---- the search in code

abbrev pub steps_in : Walk → StepList
steps_in walk = map step_seen walk.steps.items

-- the search begins at a point, and the places are few enough to be counted
pub record IsSource (states : States) (g : Flow ℕ) (ends : List ℕ) (of : Source) : Type 0 where
  pub flow : IsFlowOf states g
  pub are : AreEnds states g ends
  pub near : length (states_in states.locations) < 2 ^ 32
  pub inside : of.place < length (states_in states.locations)
  pub stands : number_in states of.place ≡ Some of.point

abbrev pub IsWalkingOn : States → Flow ℕ → List ℕ → Source → StepList → Stamps → List ℕ → StepList → Type 0
IsWalkingOn states g ends of old met open_ones steps = IsWalking states g ends of.place of.point of.is_throw old met open_ones steps

-- all steps from the points of the places before this one are there
pub record HaveSteps (states : States) (g : Flow ℕ) (k : ℕ) (met : Stamps) (steps : StepList) : Type 0 where
  pub every : (i m n b : ℕ) (is_throw : Bool) → i < k → number_in states i ≡ Some m → Steps g i b is_throw → number_in states b ≡ Some n → Contains steps (m, n, is_throw)
  pub sound : AreSound g (number_in states) steps
  pub counted : IsStamping met (length (states_in states.locations))

-- the steps between the points are these
pub record AreDrawn (states : States) (g : Flow ℕ) (steps : StepList) : Type 0 where
  pub every : (i m n b : ℕ) (is_throw : Bool) → i < length (states_in states.locations) → number_in states i ≡ Some m → Steps g i b is_throw → number_in states b ≡ Some n → Contains steps (m, n, is_throw)
  pub sound : AreSound g (number_in states) steps
