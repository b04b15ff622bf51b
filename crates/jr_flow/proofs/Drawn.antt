-- The places that were found, with their points and the steps between them, are the graph.
use Rattle.std.proofs.Common.{◌≡◌, ◌⊎◌, inl, inr, refl, sym, ◌∙◌, subst, ap, ap₂, arith, ℕ, zero, suc, ◌+◌, ◌-◌, ◌<◌, ◌≤◌, Bool, true, false, List, [], ◌∷◌, ◌++◌, length, length-append, map, ⊎_elim, Option, Some, None, option_map, option_and_then, unwrap_or, slice_get}
use Rattle.std.specs.List.{Contains}
use Rattle.std.proofs.lemmas.List.{length-map}
use Rattle.std.proofs.lemmas.Bool.{false≢true, cases_lt}
use Rattle.std.proofs.lemmas.Option.{none-some, same_Some, slice_get_within, slice_get-map}
use Rattle.jr_tree.specs.Rows.{Rows, end}
use Rattle.jr_flow_defs.specs.declared.point.Point.{Point}
use Rattle.jr_flow_defs.specs.Meaning.{Meaning}
use Rattle.jr_flow_defs.specs.States as defs
use Rattle.jr_flow_defs.specs.States.{Hop}
use Rattle.jr_flow_defs.specs.Paths.{Flow, Goes, IsPoint, IsReached, Steps}
use Rattle.jr_flow_defs.specs.Edges.{body_flow, own_number, IsGraph}
use Rattle.jr_flow_defs.specs.Graphs.{StepList}
use Rattle.jr_flow_defs.specs.Computed.{same_state}
use Rattle.jr_flow_defs.proofs.Same.{state_tells}
use Rattle.jr_flow.specs.declared.leaving.State as code
use Rattle.jr_flow.specs.declared.hops.Hop as code_hop
use Rattle.jr_flow.specs.declared.hops.Hops.{Hops}
use Rattle.jr_flow.specs.declared.states.States.{States}
use Rattle.jr_flow.specs.Places.{moment_seen, list_seen, state_seen}
use Rattle.jr_flow.specs.Pended.{lists_of, IsPending}
use Rattle.jr_flow.specs.Located.{states_in}
use Rattle.jr_flow.specs.Grouped.{firsts_of, hops_in, hop_seen, joined, starts_of, AreGrouped}
use Rattle.jr_flow.specs.Numbered.{points_in, numbers_in, same_number, Matches, ArePointed}
use Rattle.jr_flow.specs.Explored.{IsHopTo, AreHops, IsExplored, by_number, ArePoints, HasNumberedStep, AreSteps}
use Rattle.jr_flow.specs.Stated.{states_of, places_of, point_of, AreStates, AreAllTurned}
use Rattle.jr_flow.specs.Walked.{first_at, hop_then, hops_from, hops_at, number_in, IsFlowOf, AreSound, HasSteps}
use Rattle.jr_flow.proofs.Gets.{front_get, got}
use Rattle.jr_flow.proofs.Grouping.{joined_before, start_at, next_start, hop_in_group}
use Rattle.jr_flow.proofs.Keyed.{moment_once, state_of}
use Rattle.jr_flow.proofs.Pended.{list_once}
use Rattle.jr_flow.proofs.Stating.{place_is, stands_at}
use Rattle.jr_flow.proofs.Exploring.{explored_graph, hop_from}

-- ---- the hops that are read

hops_read : (all group : List code_hop.Hop) (start : ℕ) → ((j : ℕ) → j < length group → slice_get all (start + j) ≡ slice_get group j) → hops_from all start (length group) ≡ map hop_seen group
hops_read all [] start h = refl
hops_read all (one ∷ group) start h = ap₂ hop_then (ap (slice_get all) (add_zero start) ∙ h 0 (omega arith)) (hops_read all group (start + 1) (λ j lt. ap (slice_get all) (regroup start j) ∙ h (suc j) (omega (arith, lt))))
  where
    add_zero : (a : ℕ) → a ≡ a + 0
    add_zero a = omega arith

    regroup : (a j : ℕ) → a + 1 + j ≡ a + suc j
    regroup a j = omega arith

module _ (p : Rows) (m : Meaning) (body : ℕ) (states : States) (h : AreAllTurned p m body states) where
  abbrev f : Flow defs.State
  f = body_flow p m body

  abbrev places : List defs.State
  places = places_of states

  abbrev pub g : Flow ℕ
  g = by_number f places (λ i. hops_at states i)

  group_at : (i : ℕ) → i < length (states_of states) → (group : List code_hop.Hop) × (slice_get h.groups i ≡ Some group)
  group_at i lt = let count = h.count in got h.groups i (omega (arith, lt, count))

  first_is : (i : ℕ) → i ≤ length h.groups → first_at states i ≡ joined_before (h.groups ++ [] ∷ []) i
  first_is i le = let l = length-append h.groups ([] ∷ []) in
      ap (λ xs. unwrap_or (slice_get xs i) 0) h.grouped.firsts ∙ ap (λ o. unwrap_or o 0) (start_at 0 (h.groups ++ [] ∷ []) i (omega (arith, le, l))) ∙ zero_plus (joined_before (h.groups ++ [] ∷ []) i)
    where
      zero_plus : (k : ℕ) → 0 + k ≡ k
      zero_plus k = omega arith

  read : (i : ℕ) (group : List code_hop.Hop) → slice_get h.groups i ≡ Some group → hops_at states i ≡ map hop_seen group
  read i group e =
      let lt = slice_get_within h.groups i group e in
      let in_all : slice_get (h.groups ++ [] ∷ []) i ≡ Some group = front_get h.groups ([] ∷ []) i lt ∙ e in
      let first = first_is i (omega (arith, lt)) in
      let one : i + 1 ≡ suc i = omega arith in
      let next : first_at states (i + 1) ≡ joined_before (h.groups ++ [] ∷ []) i + length group = first_is (i + 1) (omega (arith, lt)) ∙ ap (joined_before (h.groups ++ [] ∷ [])) one ∙ next_start (h.groups ++ [] ∷ []) i group in_all in
      let count : first_at states (i + 1) - first_at states i ≡ length group = omega (arith, first, next) in
      ap₂ (λ k c. hops_from (hops_in states.hops) k c) first count
      ∙ hops_read (hops_in states.hops) group (joined_before (h.groups ++ [] ∷ []) i) (λ j less. ap (λ xs. slice_get xs (joined_before (h.groups ++ [] ∷ []) i + j)) h.grouped.all ∙ hop_in_group (h.groups ++ [] ∷ []) i j group in_all less)

  -- ---- what was explored

  same_pending : (x y : code.State) (i j : ℕ) → slice_get (states_of states) i ≡ Some x → slice_get (states_of states) j ≡ Some y → state_seen (lists_of states.pending) x ≡ state_seen (lists_of states.pending) y → x ≡ y
  same_pending x y i j at_i at_j e = state_is x y (ap row_of e) (moment_once x.moment y.moment (ap moment_of e))
      (list_once states.pending h.right.pending x.list y.list (h.right.placed i x at_i).fits (h.right.placed j y at_j).fits (ap pending_of e))
    where
      row_of : defs.State → ℕ
      row_of a = a.row

      moment_of : defs.State → defs.Moment
      moment_of a = a.moment

      pending_of : defs.State → defs.Pending
      pending_of a = a.pending

      state_is : (x y : code.State) → x.row ≡ y.row → x.moment ≡ y.moment → x.list ≡ y.list → x ≡ y
      state_is x y row moment list = ap₂ (λ r l. state_of r x.moment l) row list ∙ ap (λ z. state_of y.row z y.list) moment

  pub explored : IsExplored f places (λ i. hops_at states i)
  explored = record {
    start = h.start;
    apart = λ i j a at_i at_j. let x = stands_at states i a at_i in let y = stands_at states j a at_j in
        let same = same_pending x.state y.state i j x.stands y.stands (x.is ∙ sym y.is) in
        same_Some i j (sym (h.right.located.known x.state i x.stands) ∙ h.right.located.known x.state j (subst (λ z. slice_get (states_of states) j ≡ Some z) (sym same) y.stands));
    reached = λ i a e. let x = stands_at states i a e in subst (IsReached f) x.is (h.right.placed i x.state x.stands).reached;
    hops_are = λ i a e. let x = stands_at states i a e in let group = group_at i (slice_get_within (states_of states) i x.state x.stands) in
        subst (λ ks. AreHops places (f.hops a) ks) (sym (read i group.0 group.1)) (subst (λ z. AreHops places (f.hops z) (map hop_seen group.0)) x.is (h.hops_are i x.state group.0 x.stands group.1));
  }

  -- ---- the points

  -- what stands at a place, and its number
  record PointAt (i : ℕ) (x : Point) : Type 0 where
    number : ℕ
    is : number_in states i ≡ Some number
    stands : slice_get (points_in states.numbering) number ≡ Some x
    own : (k : ℕ) → own_number x.kind ≡ Some k → number ≡ k

  numbered : (i : ℕ) (o : Option Point) → slice_get (map (point_of p m body) (states_of states)) i ≡ Some o → (n : Option ℕ) × (slice_get (numbers_in states.numbering) i ≡ Some n) × Matches (points_in states.numbering) o n
  numbered i o e = let size = h.right.pointed.are.size in let lt = slice_get_within (map (point_of p m body) (states_of states)) i o e in let n = got (numbers_in states.numbering) i (omega (arith, lt, size)) in
      (n.0, n.1, h.right.pointed.are.matched i o n.0 e n.1)

  found_is : (i : ℕ) (a : code.State) → slice_get (states_of states) i ≡ Some a → slice_get (map (point_of p m body) (states_of states)) i ≡ Some (point_of p m body a)
  found_is i a e = slice_get-map (point_of p m body) (states_of states) i ∙ ap (option_map (point_of p m body)) e

  point_at : (i : ℕ) (a : defs.State) (x : Point) → slice_get places i ≡ Some a → f.point a ≡ Some x → PointAt i x
  point_at i a x at_i is = let s = stands_at states i a at_i in let n = numbered i (Some x) (found_is i s.state s.stands ∙ ap Some (ap f.point s.is ∙ is)) in by n.0 n.1 n.2
    where
      by : (n : Option ℕ) → slice_get (numbers_in states.numbering) i ≡ Some n → Matches (points_in states.numbering) (Some x) n → PointAt i x
      by None e w = absurd w
      by (Some k) e w = record { number = k; is = ap (option_and_then same_number) e; stands = w.0; own = w.1 }

  number_at : (i k : ℕ) → number_in states i ≡ Some k → slice_get (numbers_in states.numbering) i ≡ Some (Some k)
  number_at i k e = by (slice_get (numbers_in states.numbering) i) e
    where
      by : (o : Option (Option ℕ)) → option_and_then same_number o ≡ Some k → o ≡ Some (Some k)
      by None e = absurd (none-some k e)
      by (Some n) e = ap Some e

  placed_at : (i k : ℕ) → number_in states i ≡ Some k → (a : defs.State) × (x : Point) × (slice_get places i ≡ Some a) × (f.point a ≡ Some x)
  placed_at i k e = let at_i = number_at i k e in let size = h.right.pointed.are.size in let l = length-map (states_of states) (point_of p m body) in let lt = slice_get_within (numbers_in states.numbering) i (Some k) at_i in
      let s = got (states_of states) i (omega (arith, lt, size, l)) in
      let x = some (point_of p m body s.0) (h.right.pointed.are.matched i (point_of p m body s.0) (Some k) (found_is i s.0 s.1) at_i) in
      (state_seen (lists_of states.pending) s.0, x.0, place_is states i s.0 s.1, x.1)
    where
      some : (o : Option Point) → Matches (points_in states.numbering) o (Some k) → (x : Point) × (o ≡ Some x)
      some (Some x) w = (x, refl)
      some None w = absurd w

  pub points_are : ArePoints f body places (points_in states.numbering) (number_in states)
  points_are = record {
    entry = h.right.pointed.are.own.entry;
    exit = h.right.pointed.are.own.exit;
    thrown = h.right.pointed.are.own.thrown;
    numbered = λ i a x at_i is. let one = point_at i a x at_i is in (one.number, one.is, one.stands);
    own = λ i a x k at_i is at_body own. let one = point_at i a x at_i is in one.is ∙ ap Some (one.own k own);
    only = placed_at;
    apart = λ i j k e e2. h.right.pointed.are.apart i j k (number_at i k e) (number_at j k e2);
    all = λ k least most. let one = h.right.pointed.are.every k least most in (one.0, ap (option_and_then same_number) one.1);
  }

  -- ---- the flow that is read

  pub flow_read : IsFlowOf states g
  flow_read = record {
    hops_are = λ i lt. refl;
    points = λ i point. by i point (slice_get places i) refl;
    numbered = λ i k e. let one = placed_at i k e in record { point = one.1; stands = ap (option_and_then f.point) one.2 ∙ one.3 };
    inside = inside;
  }
    where
      by : (i : ℕ) → (point : IsPoint g i) → (o : Option defs.State) → slice_get places i ≡ o → (k : ℕ) × (number_in states i ≡ Some k)
      by i point None e = absurd (none-some point.point (sym (ap (option_and_then f.point) e) ∙ point.stands))
      by i point (Some a) e = let one = point_at i a point.point e (sym (ap (option_and_then f.point) e) ∙ point.stands) in (one.number, one.is)

      inside : (i r : ℕ) → i < length (states_in states.locations) → Goes g i r → r < length (states_in states.locations)
      inside i r lt goes = let one = got (states_of states) i lt in let group = group_at i lt in
          let hops = h.hops_are i one.0 group.0 one.1 group.1 in
          let into = hop_from places (f.hops (state_seen (lists_of states.pending) one.0)) (map hop_seen group.0) (record { to = r; is_throw = goes.is_throw }) hops (subst (λ hs. Contains hs (record { to = r; is_throw = goes.is_throw })) (read i group.0 group.1) goes.hop) in
          let place = into.to.place in
          let less = slice_get_within places r into.hop.to place in let l = length-map (states_of states) (state_seen (lists_of states.pending)) in omega (arith, less, l)

  -- ---- the graph

  pub steps_drawn : (steps : StepList) → AreSound g (number_in states) steps
      → ((i k : ℕ) (t : Bool) → i < length (states_of states) → number_in states i ≡ Some k → (b n : ℕ) → Steps g i b t → number_in states b ≡ Some n → Contains steps (k, n, t)) → AreSteps g (number_in states) steps
  steps_drawn steps sound every = record {
    only = sound;
    every = λ k n t s. let one = placed_at s.from k s.starts in let lt = slice_get_within places s.from one.0 one.2 in let l = length-map (states_of states) (state_seen (lists_of states.pending)) in
        every s.from k t (omega (arith, lt, l)) s.starts s.to n s.steps s.ends;
  }

  pub graph_drawn : (steps : StepList) → AreSteps g (number_in states) steps → IsGraph f body (points_in states.numbering) steps
  graph_drawn steps steps_are = explored_graph f places (λ i. hops_at states i) explored same_state state_tells body (points_in states.numbering) (number_in states) steps points_are steps_are
