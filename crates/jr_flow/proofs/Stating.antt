-- Places that are found, and ways between them.
use Rattle.std.proofs.Common.{◌≡◌, ◌⊎◌, inl, inr, ⊎_elim, refl, sym, ◌∙◌, ap, ap₂, subst, arith, ℕ, zero, suc, ◌+◌, ◌<◌, ◌≤◌, Bool, true, false, not, ◌&&◌, if◌then◌else◌, List, [], ◌∷◌, ◌++◌, length, length-append, map, take, append-nil, Option, Some, None, option_map, nat_eq, nat_lt, slice_get}
use Rattle.std.specs.List.{Contains}
use Rattle.std.proofs.lemmas.Bool.{false≢true, cases_lt, and_parts, lt-ltb, ltb-true}
use Rattle.std.proofs.lemmas.Bool.Decides.{Decides-eqb}
use Rattle.std.proofs.lemmas.List.{length-map, map-append, take_more, take_all}
use Rattle.std.proofs.lemmas.List.Elements.{Contains-get_or}
use Rattle.std.proofs.lemmas.Option.{none-some, same_Some, slice_get_within, slice_get-map, slice_get_past, get_or_from_slice_get}
use Rattle.jr_tree.specs.Rows.{Rows, end}
use Rattle.jr_flow_defs.specs.declared.point.Point.{Point}
use Rattle.jr_flow_defs.specs.declared.point.PointKind.TheVariants as kind
use Rattle.jr_flow_defs.specs.Meaning.{Meaning}
use Rattle.jr_flow_defs.specs.Acts.{Act, part, event, node, define, use_of, quit, fork, choose, go, jump, acts, by_throw}
use Rattle.jr_flow_defs.specs.States.{Moment, before, completed, State, Hop, at, hops}
use Rattle.jr_flow_defs.specs.Paths.{IsReached, Goes}
use Rattle.jr_flow_defs.specs.Edges.{point, act_point, exit_kind, point_by, body_flow}
use Rattle.jr_flow.specs.declared.leaving.State as code
use Rattle.jr_flow.specs.declared.leaving.Way.{Way}
use Rattle.jr_flow.specs.declared.hops.Hop as code_hop
use Rattle.jr_flow.specs.declared.hops.Hops.{Hops}
use Rattle.jr_flow.specs.declared.locations.Locations.{Locations}
use Rattle.jr_flow.specs.declared.numbering.Numbering.{Numbering}
use Rattle.jr_flow.specs.declared.pending.Pending.{Pending}
use Rattle.jr_flow.specs.declared.pending.Waiting.{Waiting}
use Rattle.jr_flow.specs.declared.states.States.{States}
use Rattle.jr_flow.specs.Places.{moment_seen, state_with, list_seen, state_seen, way_seen, ways_seen}
use Rattle.jr_flow.specs.Pended.{lists_of, IsPending, Grows, AddsWays}
use Rattle.jr_flow.specs.Located.{states_in, number_at, AddsState}
use Rattle.jr_flow.specs.Grouped.{hop_seen, AreGrouped}
use Rattle.jr_flow.specs.Numbered.{AddsPoint, ArePointed}
use Rattle.jr_flow.specs.Explored.{IsHopTo, AreHops}
use Rattle.jr_flow.specs.Stated.{states_of, places_of, point_of, IsPlaced, AreWaysReached, AreStates, AreBegun, KeepsStates, HasNumber, HaveHops, AreTurned, AreNoted, IsTurned, IsExploring, AreAllTurned}
use Rattle.jr_flow.proofs.Gets.{front_get, got, get_pushed, get_last}
use Rattle.jr_flow.proofs.Pended.{list_kept}

-- ---- what stands at a place

act_adds : (body n : ℕ) (o : Option Act) → AddsPoint body (act_point n o)
act_adds body n None = tt
act_adds body n (Some (part k)) = tt
act_adds body n (Some (event k)) = λ j e. absurd (none-some j e)
act_adds body n (Some (node k)) = λ j e. absurd (none-some j e)
act_adds body n (Some (define k d)) = λ j e. absurd (none-some j e)
act_adds body n (Some (use_of k d)) = λ j e. absurd (none-some j e)
act_adds body n (Some quit) = λ j e. absurd (none-some j e)
act_adds body n (Some (fork k)) = λ j e. absurd (none-some j e)
act_adds body n (Some (choose has_default)) = λ j e. absurd (none-some j e)
act_adds body n (Some (go k)) = tt
act_adds body n (Some (jump c)) = λ j e. absurd (none-some j e)

-- an entry and an exit stand at the row of the body alone
point_adds : (a : Moment) (p : Rows) (m : Meaning) (body n : ℕ) → AddsPoint body (point_by a p m body n)
point_adds (before zero) p m body n = by (nat_eq n body) refl
  where
    by : (b : Bool) → nat_eq n body ≡ b → AddsPoint body (if b then point n kind.Entry else act_point n (slice_get (acts p m n) 0))
    by true e = λ k f. (Decides-eqb n body).0 e
    by false e = act_adds body n (slice_get (acts p m n) 0)
point_adds (before (suc i)) p m body n = act_adds body n (slice_get (acts p m n) (suc i))
point_adds (completed c) p m body n = by (nat_eq n body) refl
  where
    by : (b : Bool) → nat_eq n body ≡ b → AddsPoint body (if b then point n (exit_kind c) else None)
    by true e = λ k f. (Decides-eqb n body).0 e
    by false e = tt

-- ---- one place more

pub state_known : (p : Rows) (m : Meaning) (body : ℕ) (states : States) (a : code.State) (n : ℕ) → AreStates p m body states → number_at states.locations a ≡ Some n → HasNumber p m body states states a n
state_known p m body states a n h e = record { right = h; kept = λ i b f. f; stands = h.located.stands a n e; pending = refl; hops = refl }

pub state_numbered : (p : Rows) (m : Meaning) (body : ℕ) (old : States) (located : Locations) (numbered : Numbering) (a : code.State) (n : ℕ) (found : Option Point)
    → AreStates p m body old → IsPlaced p m body old.pending a → AddsState old.locations located a n → found ≡ point_of p m body a
    → ((all : List (Option Point)) → ArePointed body old.numbering all → AddsPoint body found → ArePointed body numbered (all ++ found ∷ []))
    → HasNumber p m body old (record { pending = old.pending; locations = located; numbering = numbered; hops = old.hops }) a n
state_numbered p m body old located numbered a n found h placed adds found_is pointed = record {
  right = record {
    pending = h.pending;
    located = adds.right;
    placed = λ i b e. ⊎_elim (λ one. h.placed i b one) (λ one. subst (IsPlaced p m body old.pending) one.1 placed) (get_pushed (states_in old.locations) a b i (ap (λ xs. slice_get xs i) (sym adds.states) ∙ e));
    pointed = subst (ArePointed body numbered) all_found (pointed (map (point_of p m body) (states_in old.locations)) h.pointed (subst (AddsPoint body) (sym found_is) (point_adds (moment_seen a.moment) p m body a.row)));
  };
  kept = λ i b e. ap (λ xs. slice_get xs i) adds.states ∙ front_get (states_in old.locations) (a ∷ []) i (slice_get_within (states_in old.locations) i b e) ∙ e;
  stands = ap (λ xs. slice_get xs n) adds.states ∙ ap (slice_get (states_in old.locations ++ a ∷ [])) adds.last ∙ get_last (states_in old.locations) a;
  pending = refl;
  hops = refl;
}
  where
    all_found : map (point_of p m body) (states_in old.locations) ++ found ∷ [] ≡ map (point_of p m body) (states_in located)
    all_found = ap (λ o. map (point_of p m body) (states_in old.locations) ++ o ∷ []) found_is ∙ sym (map-append (point_of p m body) (states_in old.locations) (a ∷ [])) ∙ ap (map (point_of p m body)) (sym adds.states)

-- ---- places keep their numbers

pub place_is : (states : States) (i : ℕ) (a : code.State) → slice_get (states_of states) i ≡ Some a → slice_get (places_of states) i ≡ Some (state_seen (lists_of states.pending) a)
place_is states i a e = slice_get-map (state_seen (lists_of states.pending)) (states_of states) i ∙ ap (option_map (state_seen (lists_of states.pending))) e

pub record StandsAt (states : States) (i : ℕ) (place : State) : Type 0 where
  pub state : code.State
  pub stands : slice_get (states_of states) i ≡ Some state
  pub is : state_seen (lists_of states.pending) state ≡ place

pub stands_at : (states : States) (i : ℕ) (place : State) → slice_get (places_of states) i ≡ Some place → StandsAt states i place
stands_at states i place e = by (slice_get (states_of states) i) refl
  where
    by : (o : Option code.State) → slice_get (states_of states) i ≡ o → StandsAt states i place
    by None f = absurd (none-some place (ap (option_map (state_seen (lists_of states.pending))) (sym f) ∙ sym (slice_get-map (state_seen (lists_of states.pending)) (states_of states) i) ∙ e))
    by (Some a) f = record { state = a; stands = f; is = same_Some (state_seen (lists_of states.pending) a) place (sym (place_is states i a f) ∙ e) }

abbrev KeepsPlaces : States → States → Type 0
KeepsPlaces old new = (i : ℕ) (a : State) → slice_get (places_of old) i ≡ Some a → slice_get (places_of new) i ≡ Some a

places_kept : (old new : States) → KeepsStates old new → new.pending ≡ old.pending → KeepsPlaces old new
places_kept old new kept same i place e = let one = stands_at old i place e in place_is new i one.state (kept i one.state one.stands) ∙ ap (λ q. Some (state_seen (lists_of q) one.state)) same ∙ ap Some one.is

-- a place is the same by more lists
seen_grown : (old new : Pending) (a : code.State) → IsPending old → Grows old new → a.list ≤ length (lists_of old) → state_seen (lists_of new) a ≡ state_seen (lists_of old) a
seen_grown old new a h grows fits = ap (λ w. state_with w a) (ap (λ all. list_seen all a.list) grows.grown ∙ list_kept (lists_of old) grows.more h.rising a.list a.list fits)

hops_kept : {A : Type 0} (places others : List A) (hs : List (Hop A)) (ks : List (Hop ℕ)) → ((i : ℕ) (a : A) → slice_get places i ≡ Some a → slice_get others i ≡ Some a) → AreHops places hs ks → AreHops others hs ks
hops_kept places others hs ks kept AreHops.none = AreHops.none
hops_kept places others hs ks kept (AreHops.more {h = h} {k = k} {hs = rest} {ks = numbers} is later) = AreHops.more (record { place = kept k.to h.to is.place; same = is.same }) (hops_kept places others rest numbers kept later)

hops_pushed : {A : Type 0} (places : List A) (hs : List (Hop A)) (ks : List (Hop ℕ)) (h : Hop A) (k : Hop ℕ) → AreHops places hs ks → IsHopTo places h k → AreHops places (hs ++ h ∷ []) (ks ++ k ∷ [])
hops_pushed places hs ks h k AreHops.none is = AreHops.more is AreHops.none
hops_pushed places hs ks h k (AreHops.more {h = one} {k = number} {hs = rest} {ks = numbers} first later) is = AreHops.more first (hops_pushed places rest numbers h k later is)

-- the hops of places that were there stay where the places do
module _ (p : Rows) (m : Meaning) (body : ℕ) (old new : States) (groups : List (List code_hop.Hop)) (few : length groups ≤ length (states_of old)) (states : KeepsStates old new) (places : KeepsPlaces old new) where
  pub have_hops : ((i : ℕ) (a : code.State) → slice_get (states_of old) i ≡ Some a → state_seen (lists_of new.pending) a ≡ state_seen (lists_of old.pending) a) → HaveHops p m body old groups → HaveHops p m body new groups
  have_hops seen h i a group at_i in_groups =
      let lt = slice_get_within groups i group in_groups in
      let one = got (states_of old) i (omega (arith, lt, few)) in
      let same : one.0 ≡ a = same_Some one.0 a (sym (states i one.0 one.1) ∙ at_i) in
      let before_i = subst (λ x. slice_get (states_of old) i ≡ Some x) same one.1 in
      hops_kept (places_of old) (places_of new) (hops p m body (state_seen (lists_of new.pending) a)) (map hop_seen group) places
      (subst (λ x. AreHops (places_of old) (hops p m body x) (map hop_seen group)) (sym (seen i a before_i)) (h i a group before_i in_groups))

-- ---- one way more

take_one : {A : Type 0} (xs : List A) (k : ℕ) (x : A) → slice_get xs k ≡ Some x → take (k + 1) xs ≡ take k xs ++ x ∷ []
take_one xs k x e = take_more xs k x (slice_get_within xs k x e) ∙ ap (λ y. take k xs ++ y ∷ []) (get_or_from_slice_get xs k x x e)

module _ (p : Rows) (m : Meaning) (body : ℕ) (old mid numbered : States) (pushed : Hops) (groups : List (List code_hop.Hop)) (ways : List Way) (k : ℕ) (way : Way) (to : ℕ)
    (noted : AreNoted p m body old mid groups ways k) (at_k : slice_get ways k ≡ Some way) (number : HasNumber p m body mid numbered way.to to) where
  abbrev hop : code_hop.Hop
  hop = record { to = to; is_throw = way.is_throw }

  abbrev behind : States
  behind = record { pending = numbered.pending; locations = numbered.locations; numbering = numbered.numbering; hops = pushed }

  abbrev seen : List (Hop State)
  seen = ways_seen (lists_of numbered.pending) ways

  places : KeepsPlaces mid behind
  places = places_kept mid behind number.kept number.pending

  kept_length : (xs ys : List code.State) (n : ℕ) → ((i : ℕ) (a : code.State) → slice_get xs i ≡ Some a → slice_get ys i ≡ Some a) → n ≤ length xs → n ≤ length ys
  kept_length xs ys zero kept le = omega arith
  kept_length xs ys (suc n) kept le = let one = got xs n (omega (arith, le)) in let lt = slice_get_within ys n one.0 (kept n one.0 one.1) in omega (arith, lt)

  one_more : take (k + 1) seen ≡ take k seen ++ way_seen (lists_of numbered.pending) way ∷ []
  one_more = take_one seen k (way_seen (lists_of numbered.pending) way) (slice_get-map (way_seen (lists_of numbered.pending)) ways k ∙ ap (option_map (way_seen (lists_of numbered.pending))) at_k)

  so_far : AreHops (places_of behind) (take k seen) (map hop_seen noted.group)
  so_far = hops_kept (places_of mid) (places_of behind) (take k seen) (map hop_seen noted.group) places
      (subst (λ q. AreHops (places_of mid) (take k (ways_seen (lists_of q) ways)) (map hop_seen noted.group)) (sym number.pending) noted.last)

  all_so_far : AreHops (places_of behind) (take (k + 1) seen) (map hop_seen (noted.group ++ hop ∷ []))
  all_so_far = subst (λ xs. AreHops (places_of behind) xs (map hop_seen (noted.group ++ hop ∷ []))) (sym one_more)
      (subst (λ ks. AreHops (places_of behind) (take k seen ++ way_seen (lists_of numbered.pending) way ∷ []) ks) (sym (map-append hop_seen noted.group (hop ∷ [])))
      (hops_pushed (places_of behind) (take k seen) (map hop_seen noted.group) (way_seen (lists_of numbered.pending) way) (hop_seen hop) so_far
      (record { place = place_is numbered to way.to number.stands; same = refl })))

  pub way_noted : AreGrouped pushed (groups ++ (noted.group ++ hop ∷ []) ∷ []) → AreNoted p m body old behind groups ways (k + 1)
  way_noted grouped = record {
    group = noted.group ++ hop ∷ [];
    pending = number.pending ∙ noted.pending;
    kept = λ i a e. number.kept i a (noted.kept i a e);
    few = kept_length (states_of mid) (states_of numbered) (length groups) number.kept noted.few;
    right = record { pending = number.right.pending; located = number.right.located; placed = number.right.placed; pointed = number.right.pointed };
    grouped = grouped;
    hops_are = have_hops p m body mid behind groups noted.few number.kept places (λ i a e. ap (λ q. state_seen (lists_of q) a) number.pending) noted.hops_are;
    last = all_so_far;
  }

-- ---- one turn

contains : {A : Type 0} (xs : List A) (k : ℕ) (x : A) → slice_get xs k ≡ Some x → Contains xs x
contains xs k x e = subst (Contains xs) (get_or_from_slice_get xs k x x e) (Contains-get_or xs k x (slice_get_within xs k x e))

module _ (p : Rows) (m : Meaning) (body : ℕ) (old : States) (pending : Pending) (begun : Hops) (groups : List (List code_hop.Hop)) (ways : List Way) (from : code.State)
    (h : AreTurned p m body old groups) (at_from : slice_get (states_of old) (length groups) ≡ Some from) (adds : AddsWays old.pending pending [] ways (hops p m body (state_seen (lists_of pending) from))) where
  abbrev mid : States
  mid = record { pending = pending; locations = old.locations; numbering = old.numbering; hops = begun }

  mid_seen : (i : ℕ) (a : code.State) → slice_get (states_of old) i ≡ Some a → state_seen (lists_of pending) a ≡ state_seen (lists_of old.pending) a
  mid_seen i a e = seen_grown old.pending pending a h.right.pending adds.grows (h.right.placed i a e).fits

  mid_places : KeepsPlaces old mid
  mid_places i place e = let one = stands_at old i place e in place_is mid i one.state one.stands ∙ ap Some (mid_seen i one.state one.stands ∙ one.is)

  mid_placed : (i : ℕ) (a : code.State) → slice_get (states_of old) i ≡ Some a → IsPlaced p m body pending a
  mid_placed i a e = let one = h.right.placed i a e in let fits = one.fits in let l = ap length adds.grows.grown ∙ length-append (lists_of old.pending) adds.grows.more in record {
    fits = omega (arith, fits, l);
    from = one.from;
    to = one.to;
    reached = subst (IsReached (body_flow p m body)) (sym (mid_seen i a e)) one.reached;
  }

  mid_right : AreStates p m body mid
  mid_right = record { pending = adds.grows.right; located = h.right.located; placed = mid_placed; pointed = h.right.pointed }

  few : length groups ≤ length (states_of old)
  few = let lt = slice_get_within (states_of old) (length groups) from at_from in omega (arith, lt)

  pub ways_reached : AreWaysReached p m body pending ways
  ways_reached k way e = IsReached.on (mid_placed (length groups) from at_from).reached
      (record {
        is_throw = way.is_throw;
        hop = subst (λ hs. Contains hs (way_seen (lists_of pending) way)) adds.ways
            (contains (ways_seen (lists_of pending) ways) k (way_seen (lists_of pending) way) (slice_get-map (way_seen (lists_of pending)) ways k ∙ ap (option_map (way_seen (lists_of pending))) e));
      })

  pub none_noted : AreGrouped begun (groups ++ [] ∷ []) → AreNoted p m body mid mid groups ways 0
  none_noted grouped = record {
    group = [];
    pending = refl;
    kept = λ i a e. e;
    few = few;
    right = mid_right;
    grouped = grouped;
    hops_are = have_hops p m body old mid groups few (λ i a e. e) mid_places mid_seen h.hops_are;
    last = AreHops.none;
  }

  pub all_noted : (new : States) → AreNoted p m body mid new groups ways (length ways) → IsTurned p m body old new groups
  all_noted new noted = record {
    group = noted.group;
    turned = record { right = noted.right; grouped = noted.grouped; hops_are = all_hops };
    kept = λ i a e. new_places i a (mid_places i a e);
    states = noted.kept;
  }
    where
      new_places : KeepsPlaces mid new
      new_places = places_kept mid new noted.kept noted.pending

      last : AreHops (places_of new) (hops p m body (state_seen (lists_of new.pending) from)) (map hop_seen noted.group)
      last = subst (λ xs. AreHops (places_of new) xs (map hop_seen noted.group))
          (take_all (length ways) (ways_seen (lists_of new.pending) ways) (map_short (lists_of new.pending)) ∙ ap (λ q. ways_seen (lists_of q) ways) noted.pending ∙ adds.ways ∙ ap (λ q. hops p m body (state_seen (lists_of q) from)) (sym noted.pending)) noted.last
        where
          map_short : (lists : List Waiting) → length (ways_seen lists ways) ≤ length ways
          map_short lists = let l = length-map ways (way_seen lists) in omega (arith, l)

      all_hops : HaveHops p m body new (groups ++ noted.group ∷ [])
      all_hops i a group at_i in_groups = ⊎_elim
          (λ early. noted.hops_are i a group at_i early)
          (λ late. subst (λ g. AreHops (places_of new) (hops p m body (state_seen (lists_of new.pending) a)) (map hop_seen g)) late.1
          (subst (λ x. AreHops (places_of new) (hops p m body (state_seen (lists_of new.pending) x)) (map hop_seen noted.group)) (same_Some from a (sym (noted.kept (length groups) from at_from) ∙ ap (slice_get (states_of new)) (sym late.0) ∙ at_i)) last))
          (get_pushed groups noted.group group i in_groups)

-- ---- all turns

pub right_tells : (n body stop list size : ℕ) → (not (nat_lt n body) && nat_lt n stop) && not (nat_lt size list) ≡ true → (body ≤ n) × (n < stop) × (list ≤ size)
right_tells n body stop list size e = let both = and_parts (not (nat_lt n body) && nat_lt n stop) (not (nat_lt size list)) e in let inside = and_parts (not (nat_lt n body)) (nat_lt n stop) both.0 in
    (not_less n body inside.0, ltb-true n stop inside.1, not_less size list both.1)
  where
    not_less : (a b : ℕ) → not (nat_lt a b) ≡ true → b ≤ a
    not_less a b test = ⊎_elim (λ lt. absurd (false≢true (ap not (sym (lt-ltb a b lt)) ∙ test))) (λ le. le) (cases_lt a b)

pub exploring_next : (p : Rows) (m : Meaning) (body : ℕ) (old new : States) (n : ℕ) (a : code.State) (e : IsExploring p m body old n) → slice_get (states_of old) n ≡ Some a → IsTurned p m body old new e.groups → IsExploring p m body new (n + 1)
exploring_next p m body old new n a e at_n t = record {
  groups = e.groups ++ t.group ∷ [];
  count = length-append e.groups (t.group ∷ []) ∙ ap (λ k. k + 1) e.count;
  turned = t.turned;
  start = t.kept 0 (at body 0 []) e.start;
  few = let lt = slice_get_within (states_of new) n a (t.states n a at_n) in omega (arith, lt);
}

pub exploring_ends : (p : Rows) (m : Meaning) (body : ℕ) (states : States) (begun : Hops) (n : ℕ) (e : IsExploring p m body states n) → slice_get (states_of states) n ≡ None → AreGrouped begun (e.groups ++ [] ∷ [])
    → AreAllTurned p m body (record { pending = states.pending; locations = states.locations; numbering = states.numbering; hops = begun })
exploring_ends p m body states begun n e none grouped = record {
  groups = e.groups;
  count = let few = e.few in let count = e.count in ⊎_elim (λ lt. let one = got (states_of states) n lt in absurd (none-some one.0 (sym none ∙ one.1))) (λ past. omega (arith, few, count, past)) (cases_lt n (length (states_of states)));
  right = record { pending = e.turned.right.pending; located = e.turned.right.located; placed = e.turned.right.placed; pointed = e.turned.right.pointed };
  hops_are = e.turned.hops_are;
  grouped = grouped;
  start = e.start;
}

-- no place yet
pub begun_states : (p : Rows) (m : Meaning) (body : ℕ) (states : States) → AreBegun body states → AreStates p m body states
begun_states p m body states h = record {
  pending = h.pending;
  located = h.located;
  placed = λ i a e. absurd (none-some a (ap (λ xs. slice_get xs i) (sym h.none) ∙ e));
  pointed = subst (λ xs. ArePointed body states.numbering (map (point_of p m body) xs)) (sym h.none) h.pointed;
}

-- the entry alone
pub entry_found : (p : Rows) (m : Meaning) (body : ℕ) (old new : States) (a : code.State) (n : ℕ) → AreBegun body old → (h : HasNumber p m body old new a n) → slice_get (states_of new) 0 ≡ Some a → state_seen (lists_of new.pending) a ≡ at body 0 [] → IsExploring p m body new 0
entry_found p m body old new a n begun h first is = record {
  groups = [];
  count = refl;
  turned = record { right = h.right; grouped = subst (λ hs. AreGrouped hs []) (sym h.hops) begun.grouped; hops_are = λ i x group e f. absurd (none-some group f) };
  start = place_is new 0 a first ∙ ap Some is;
  few = omega arith;
}
