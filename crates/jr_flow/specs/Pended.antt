-- Lists of what is pending, each with a number.
use Rattle.std.specs.Prelude.{◌≡◌, ℕ, ◌-◌, Bool, true, false, if◌then◌else◌, List, [], ◌∷◌, ◌++◌, map, Option, Some, None}
use Rattle.std.specs.HashMap.{get}
use Rattle.jr_flow.specs.declared.acts.Completion.{Completion}
use Rattle.jr_flow.specs.declared.pending.Pending.{Pending}
use Rattle.jr_flow.specs.declared.pending.Waiting.{Waiting}
use Rattle.jr_flow.specs.Keys.{waiting_key, same_waiting}
use Rattle.jr_tree.specs.Rows.{Rows, label}
use Rattle.jr_flow_defs.specs.Acts.{Completion as Completion_of, normally, by_throw, Act, part, event, node, define, use_of, quit, fork, choose, go, jump, is_catch}
use Rattle.jr_flow_defs.specs.States.{Pending as Pending_list, State, Hop, at, left, plainly, completing, all_at, is_throw, ending, catches}
use Rattle.jr_flow.specs.declared.leaving.State as code
use Rattle.jr_flow.specs.declared.leaving.Way.{Way}
use Rattle.jr_flow.specs.Seen.{completion_seen}
use Rattle.jr_flow.specs.Places.{entry, IsRising, list_seen, state_seen, ways_seen}

abbrev pub lists_of : Pending → List Waiting
lists_of pending = pending.lists.items

-- the number that a list has by the table
abbrev pub number_in : Pending → Waiting → Option ℕ
number_in pending x = get same_waiting pending.numbers (waiting_key x)

-- each list has a greater number than the one round it, and the table has the number of each
pub record IsPending (pending : Pending) : Type 0 where
  pub rising : IsRising (lists_of pending)
  pub stands : (x : Waiting) (n : ℕ) → number_in pending x ≡ Some n → entry (lists_of pending) n ≡ Some x
  pub known : (x : Waiting) (n : ℕ) → entry (lists_of pending) n ≡ Some x → number_in pending x ≡ Some n

-- all lists keep their numbers
pub record Grows (old new : Pending) : Type 0 where
  pub more : List Waiting
  pub grown : lists_of new ≡ lists_of old ++ more
  pub right : IsPending new

-- the list with one completion more has this number
pub record HasList (old new : Pending) (outer : ℕ) (completion : Completion) (n : ℕ) : Type 0 where
  pub grows : Grows old new
  pub stands : entry (lists_of new) n ≡ Some (record { completion = completion; outer = outer })

-- these hops are added to the ways, by the lists that there are behind
pub record AddsWays (old new : Pending) (before behind : List Way) (hops : List (Hop State)) : Type 0 where
  pub grows : Grows old new
  pub ways : ways_seen (lists_of new) behind ≡ ways_seen (lists_of new) before ++ hops

-- the state is this one, by the lists that there are behind
pub record IsState (old new : Pending) (a : code.State) (place : State) : Type 0 where
  pub grows : Grows old new
  pub is : state_seen (lists_of new) a ≡ place

-- to places of a body, or out of it
abbrev pub ended : ℕ → List State → List (Hop State)
ended body places = map (λ a. plainly (ending body a)) places

-- what is thrown goes to each of the catches (JLS 14.20)
abbrev pub caught_by : Bool → List ℕ → Pending_list → List State
caught_by true all w = map (λ k. at k 0 w) all
caught_by false all w = []

abbrev pub caught : Rows → ℕ → Completion_of → Pending_list → List State
caught p n c w = caught_by (is_throw c) (catches p n) w

-- the ways to those of these rows that are catches
abbrev pub catch_ways : Rows → Pending_list → List ℕ → List (Hop State)
catch_ways p w [] = []
catch_ways p w (k ∷ rest) = (if is_catch (label p k) then plainly (at k 0 w) ∷ [] else []) ++ catch_ways p w rest

-- why a `try` completes whose block of `finally` has completed: as was pending, or for a reason of its own (JLS 14.20.2)
abbrev pub reason : Completion_of → Completion_of → Completion_of
reason normally waiting = waiting
reason c waiting = c

-- from before an act of the row n, with the number of the next one
abbrev pub hops_before : Option Act → ℕ → ℕ → ℕ → Pending_list → List (Hop State)
hops_before None n next count w = plainly (left n normally w) ∷ []
hops_before (Some (part k)) n next count w = plainly (at k 0 w) ∷ []
hops_before (Some (event k)) n next count w = plainly (at n next w) ∷ completing n by_throw w ∷ []
hops_before (Some (node k)) n next count w = plainly (at n next w) ∷ []
hops_before (Some (define k d)) n next count w = plainly (at n next w) ∷ []
hops_before (Some (use_of k d)) n next count w = plainly (at n next w) ∷ []
hops_before (Some quit) n next count w = plainly (at n next w) ∷ plainly (left n normally w) ∷ []
hops_before (Some (fork j)) n next count w = plainly (at n next w) ∷ plainly (at n j w) ∷ []
hops_before (Some (choose has_default)) n next count w = all_at n next (count - next) w ++ (if has_default then [] else plainly (left n normally w) ∷ [])
hops_before (Some (go j)) n next count w = plainly (at n j w) ∷ []
hops_before (Some (jump c)) n next count w = completing n c w ∷ []
