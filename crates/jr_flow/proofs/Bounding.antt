-- A body whose rows are structured has no more points than its rows may have.
use Rattle.std.proofs.Common.{◌≡◌, ◌⊎◌, refl, sym, ◌∙◌, ap, ap₂, subst, ⊎_elim, arith, ℕ, zero, suc, ◌+◌, ◌-◌, ◌<◌, ◌≤◌, Bool, true, false, if◌then◌else◌, List, [], ◌∷◌, ◌++◌, length, map, Option, Some, None, option_map, nat_eq, Decides, slice_get}
use Rattle.std.specs.List.{Contains}
use Rattle.std.proofs.lemmas.Bool.{cases_lt}
use Rattle.std.proofs.lemmas.Bool.Decides.{Decides-eqb}
use Rattle.std.proofs.lemmas.List.Elements.{Contains-append_left, Contains-append_right}
use Rattle.std.proofs.lemmas.Option.{none-some, same_Some, slice_get-map}
use Rattle.jr_tree.specs.Rows.{Rows, label, end}
use Rattle.jr_tree.specs.Tree.{IsTree}
use Rattle.jr_flow_defs.specs.declared.point.Point.{Point}
use Rattle.jr_flow_defs.specs.declared.point.PointKind.TheVariants as kind
use Rattle.jr_flow_defs.specs.Meaning.{Meaning}
use Rattle.jr_flow_defs.specs.Acts.{Completion, normally, by_break, by_continue, by_return, by_throw, Act, part, event, node, define, use_of, quit, fork, choose, go, jump, Acts, acts}
use Rattle.jr_flow_defs.specs.States.{Moment, before, completed, State, at, left}
use Rattle.jr_flow_defs.specs.Edges.{point, act_point, exit_kind, point_by, body_flow}
use Rattle.jr_flow_defs.proofs.Searched.{contains_first, contains_more}
use Rattle.jr_flow.specs.Bodies.{has_code}
use Rattle.jr_flow.specs.Coded.{IsTooLarge}
use Rattle.jr_flow.specs.Numbered.{count_points}
use Rattle.jr_flow.specs.Sizes.{is_structured, most_by, most_of, IsSmall}
use Rattle.jr_flow.proofs.Few.{HavePlaces, few}
use Rattle.jr_flow.proofs.Linking.{get_of, among}
use Rattle.jr_flow.proofs.Staying.{count_acts, IsStructuredBody, In, IsHeld, IsWayOut, structured_tells, row_acts_fit, reached_held}

-- a place in a body, with the point that may stand there
abbrev Slot : Type 0
Slot = State × Option Point

abbrev place_of : Slot → State
place_of x = x.0

abbrev found_at : Slot → Option Point
found_at x = x.1

abbrev count_in : List Slot → ℕ
count_in all = count_points (map found_at all)

next_in : (o : Option Point) (rest : List (Option Point)) → count_points (o ∷ rest) ≡ count_points (o ∷ []) + count_points rest
next_in None rest = omega arith
next_in (Some x) rest = omega arith

count_both : (a b : List Slot) → count_in (a ++ b) ≡ count_in a + count_in b
count_both [] b = omega arith
count_both (x ∷ a) b = let e = next_in (found_at x) (map found_at (a ++ b)) in let f = next_in (found_at x) (map found_at a) in let more = count_both a b in omega (arith, e, f, more)

-- ---- the places of one row

abbrev slot : ℕ → ℕ → Option Act → Slot
slot n i o = (at n i [], act_point n o)

abbrev row_slots : ℕ → Acts → ℕ → List Slot
row_slots n [] i = []
row_slots n (a ∷ all) i = slot n i (Some a) ∷ row_slots n all (i + 1)

count_row : (n : ℕ) (all : Acts) (i : ℕ) → count_in (row_slots n all i) ≡ count_acts all
count_row n [] i = refl
count_row n (part k ∷ all) i = count_row n all (i + 1)
count_row n (event k ∷ all) i = ap suc (count_row n all (i + 1))
count_row n (node k ∷ all) i = ap suc (count_row n all (i + 1))
count_row n (define k d ∷ all) i = ap suc (count_row n all (i + 1))
count_row n (use_of k d ∷ all) i = ap suc (count_row n all (i + 1))
count_row n (quit ∷ all) i = ap suc (count_row n all (i + 1))
count_row n (fork j ∷ all) i = ap suc (count_row n all (i + 1))
count_row n (choose b ∷ all) i = ap suc (count_row n all (i + 1))
count_row n (go j ∷ all) i = count_row n all (i + 1)
count_row n (jump c ∷ all) i = ap suc (count_row n all (i + 1))

row_slot : (n : ℕ) (all : Acts) (i k : ℕ) (a : Act) → slice_get all k ≡ Some a → Contains (row_slots n all i) (slot n (i + k) (Some a))
row_slot n [] i k a e = absurd (none-some a e)
row_slot n (b ∷ all) i zero a e = let same : i ≡ i + 0 = omega arith in
    subst (Contains (row_slots n (b ∷ all) i)) (ap₂ (slot n) same e) (contains_first (slot n i (Some b)) (row_slots n all (i + 1)))
row_slot n (b ∷ all) i (suc k) a e = let same : i + 1 + k ≡ i + suc k = omega arith in
    contains_more (slot n i (Some b)) (row_slots n all (i + 1)) (slot n (i + suc k) (Some a)) (subst (λ j. Contains (row_slots n all (i + 1)) (slot n j (Some a))) same (row_slot n all (i + 1) k a e))

-- an act stands there
record IsActPoint (n : ℕ) (all : Acts) (k : ℕ) (x : Point) : Type 0 where
  act : Act
  stands : slice_get all k ≡ Some act
  is : act_point n (Some act) ≡ Some x

act_is : (n : ℕ) (all : Acts) (k : ℕ) (x : Point) → act_point n (slice_get all k) ≡ Some x → IsActPoint n all k x
act_is n all k x e = by (slice_get all k) refl e
  where
    by : (o : Option Act) → slice_get all k ≡ o → act_point n o ≡ Some x → IsActPoint n all k x
    by None f g = absurd (none-some x g)
    by (Some a) f g = record { act = a; stands = f; is = g }

module _ (p : Rows) (m : Meaning) where
  abbrev rows_slots : ℕ → ℕ → List Slot
  rows_slots n zero = []
  rows_slots n (suc count) = row_slots n (acts p m n) 0 ++ rows_slots (n + 1) count

  count_rows : (n count : ℕ) → ((k : ℕ) → n ≤ k → k < n + count → count_acts (acts p m k) ≤ most_by (label p k) p k) → count_in (rows_slots n count) ≤ most_of p n count
  count_rows n zero h = omega arith
  count_rows n (suc count) h = let e = count_both (row_slots n (acts p m n) 0) (rows_slots (n + 1) count) in let f = count_row n (acts p m n) 0 in
      let one = h n (omega arith) (omega arith) in
      let more = count_rows (n + 1) count (λ k low high. h k (omega (arith, low)) (omega (arith, high))) in omega (arith, e, f, one, more)

  row_in_slots : (n count k : ℕ) (x : Slot) → n ≤ k → k < n + count → Contains (row_slots k (acts p m k) 0) x → Contains (rows_slots n count) x
  row_in_slots n zero k x low high c = absurd (omega (arith, low, high))
  row_in_slots n (suc count) k x low high c = ⊎_elim
      (λ less. Contains-append_right (row_slots n (acts p m n) 0) (rows_slots (n + 1) count) x (row_in_slots (n + 1) count k x (omega (arith, less)) (omega (arith, high)) c))
      (λ past. let same : k ≡ n = omega (arith, past, low) in Contains-append_left (row_slots n (acts p m n) 0) (rows_slots (n + 1) count) x (subst (λ j. Contains (row_slots j (acts p m j) 0) x) same c))
      (cases_lt n k)

module _ (p : Rows) (m : Meaning) (body : ℕ) (right : IsStructuredBody p body) where
  abbrev size : ℕ
  size = end p body - body

  abbrev exit_slot : Slot
  exit_slot = (left body normally [], point body kind.Exit)

  abbrev throw_slot : Slot
  throw_slot = (left body by_throw [], point body kind.Thrown)

  abbrev entry_slot : Slot
  entry_slot = (at body 0 [], point body kind.Entry)

  abbrev slots : List Slot
  slots = exit_slot ∷ throw_slot ∷ entry_slot ∷ rows_slots p m body size

  count_slots : count_in slots ≤ most_of p body size + 3
  count_slots = let le = count_rows p m body size (λ k low high. (row_acts_fit p m body right k (low, (let up = right.tree.nested body in omega (arith, high, low, up)))).few) in omega (arith, le)

  -- ---- each point has its slot

  of_row : (n : ℕ) (x : Slot) → In p m body right n → Contains (row_slots n (acts p m n) 0) x → Contains slots x
  of_row n x i c = contains_more exit_slot (throw_slot ∷ entry_slot ∷ rows_slots p m body size) x (contains_more throw_slot (entry_slot ∷ rows_slots p m body size) x (contains_more entry_slot (rows_slots p m body size) x
      (row_in_slots p m body size n x i.0 (let low = i.0 in let high = i.1 in omega (arith, low, high)) c)))

  exit_in : Contains slots exit_slot
  exit_in = contains_first exit_slot (throw_slot ∷ entry_slot ∷ rows_slots p m body size)

  throw_in : Contains slots throw_slot
  throw_in = contains_more exit_slot (throw_slot ∷ entry_slot ∷ rows_slots p m body size) throw_slot (contains_first throw_slot (entry_slot ∷ rows_slots p m body size))

  entry_in : Contains slots entry_slot
  entry_in = contains_more exit_slot (throw_slot ∷ entry_slot ∷ rows_slots p m body size) entry_slot (contains_more throw_slot (entry_slot ∷ rows_slots p m body size) entry_slot (contains_first entry_slot (rows_slots p m body size)))

  act_slot : (n i : ℕ) (x : Point) → In p m body right n → act_point n (slice_get (acts p m n) i) ≡ Some x → Contains slots (at n i [], Some x)
  act_slot n i x h e = let a = act_is n (acts p m n) i x e in
      let same : 0 + i ≡ i = omega arith in
      of_row n (at n i [], Some x) h (subst (λ o. Contains (row_slots n (acts p m n) 0) (at n i [], o)) a.is (subst (λ j. Contains (row_slots n (acts p m n) 0) (slot n j (Some a.act))) same (row_slot n (acts p m n) 0 i a.act a.stands)))

  before_slot : (n i : ℕ) (x : Point) → In p m body right n → point_by (before i) p m body n ≡ Some x → Contains slots (at n i [], Some x)
  before_slot n (suc i) x h e = act_slot n (suc i) x h e
  before_slot n zero x h e = by (nat_eq n body) (Decides-eqb n body) e
    where
      by : (b : Bool) → Decides b (n ≡ body) → (if b then point n kind.Entry else act_point n (slice_get (acts p m n) 0)) ≡ Some x → Contains slots (at n 0 [], Some x)
      by true d g = let same = sym (d.0 refl) in subst (λ o. Contains slots (at n 0 [], o)) g (subst (λ k. Contains slots (at k 0 [], point k kind.Entry)) same entry_in)
      by false d g = act_slot n 0 x h g

  way_out_slot : (c : Completion) (x : Point) → IsWayOut (completed c) → point body (exit_kind c) ≡ Some x → Contains slots (left body c [], Some x)
  way_out_slot normally x h e = subst (λ o. Contains slots (left body normally [], o)) e exit_in
  way_out_slot by_throw x h e = subst (λ o. Contains slots (left body by_throw [], o)) e throw_in
  way_out_slot (by_break k) x h e = absurd h
  way_out_slot (by_continue k) x h e = absurd h
  way_out_slot by_return x h e = absurd h

  completed_slot : (n : ℕ) (c : Completion) (x : Point) → (n ≡ body → IsWayOut (completed c)) → point_by (completed c) p m body n ≡ Some x → Contains slots (left n c [], Some x)
  completed_slot n c x out e = by (nat_eq n body) (Decides-eqb n body) e
    where
      by : (b : Bool) → Decides b (n ≡ body) → (if b then point n (exit_kind c) else None) ≡ Some x → Contains slots (left n c [], Some x)
      by true d g = let same = d.0 refl in subst (λ k. Contains slots (left k c [], Some x)) (sym same) (way_out_slot c x (out same) (subst (λ k. point k (exit_kind c) ≡ Some x) same g))
      by false d g = absurd (none-some x g)

  moment_slot : (t : Moment) (n : ℕ) (x : Point) → In p m body right n → (n ≡ body → IsWayOut t) → point_by t p m body n ≡ Some x → Contains slots (record { row = n; moment = t; pending = [] }, Some x)
  moment_slot (before i) n x h out e = before_slot n i x h e
  moment_slot (completed c) n x h out e = completed_slot n c x out e

  slot_of : (a : State) (x : Point) → IsHeld p m body right a → (body_flow p m body).point a ≡ Some x → Contains slots (a, Some x)
  slot_of a x h e = subst (λ w. Contains slots (record { row = a.row; moment = a.moment; pending = w }, Some x)) (sym h.free) (moment_slot a.moment a.row x h.inside h.out e)

  -- ---- no more points than that

  abbrev Stands : State → ℕ → Type 0
  Stands a k = (o : Option Point) × (slice_get slots k ≡ Some (a, o))

  stands_once : (a b : State) (k : ℕ) → Stands a k → Stands b k → a ≡ b
  stands_once a b k h g = ap place_of (same_Some (a, h.0) (b, g.0) (sym h.1 ∙ g.1))

  pub bounds_points : most_of p body size + 3 ≤ 65536 → IsTooLarge p m body → ⊥
  bounds_points le more = let least = few (map found_at slots) Stands stands_once more.places have more.apart in let many = more.more in let counted = count_slots in omega (arith, least, many, counted, le)
    where
      have : HavePlaces (map found_at slots) Stands more.places
      have i a e = let c = among more.places i a e in let x = more.points a c in
          let k = get_of slots (a, Some x.0) (slot_of a x.0 (reached_held p m body right a (more.reached a c)) x.1) in
          (k.0, (x.0, slice_get-map found_at slots k.0 ∙ ap (option_map found_at) k.1), (Some x.0, k.1))

pub small_tells : (p : Rows) (m : Meaning) (body : ℕ) → IsTree p → body < length p → has_code p body ≡ true → IsSmall p body → IsTooLarge p m body → ⊥
small_tells p m body tree lt has small = bounds_points p m body (record { tree = tree; few = lt; has = has; rows = λ n low high. structured_tells p n (small.rows n low high) }) small.few

-- ---- one row after the other

-- the rows of the body before one are structured, and have no more points than were counted with the entry and the exits
pub record IsBounded (p : Rows) (body stop most : ℕ) : Type 0 where
  pub from : body ≤ stop
  pub to : stop ≤ end p body
  pub rows : (n : ℕ) → body ≤ n → n < stop → is_structured p n ≡ true
  pub few : most ≤ 65536 → most_of p body (stop - body) + 3 ≤ most

pub begins : (p : Rows) (body : ℕ) → IsTree p → IsBounded p body body 3
begins p body tree = record {
  from = omega arith;
  to = let up = tree.nested body in omega (arith, up);
  rows = λ n low high. absurd (omega (arith, low, high));
  few = λ le. let none : 0 ≡ body - body = omega arith in subst (λ k. most_of p body k + 3 ≤ 3) none (omega arith);
}

most_next : (p : Rows) (n count k : ℕ) → k ≡ n + count → most_of p n (suc count) ≡ most_of p n count + most_by (label p k) p k
most_next p n zero k e = let same : n ≡ k = omega (arith, e) in subst (λ j. most_by (label p n) p n + 0 ≡ 0 + most_by (label p j) p j) same (omega arith)
most_next p n (suc count) k e = let more = most_next p (n + 1) count k (omega (arith, e)) in omega (arith, more)

pub next_row : (p : Rows) (body stop most more next : ℕ) → stop < end p body → is_structured p stop ≡ true → more ≡ most_by (label p stop) p stop → (next ≤ 65536 → next ≡ more + most) → IsBounded p body stop most → IsBounded p body (stop + 1) next
next_row p body stop most more next less e is sum h = let low = h.from in record {
  from = omega (arith, low);
  to = omega (arith, less);
  rows = λ n from to. ⊎_elim (λ lower. h.rows n from lower) (λ past. let same : stop ≡ n = omega (arith, past, to) in subst (λ k. is_structured p k ≡ true) same e) (cases_lt n stop);
  few = λ le. let added = sum le in let before = h.few (omega (arith, le, added)) in let step = most_next p body (stop - body) stop (omega (arith, low)) in
      let size : suc (stop - body) ≡ stop + 1 - body = omega (arith, low) in
      subst (λ k. most_of p body k + 3 ≤ next) size (omega (arith, added, before, step, is));
}

pub bounded_tells : (p : Rows) (body stop most : ℕ) → end p body ≤ stop → most ≤ 65536 → IsBounded p body stop most → IsSmall p body
bounded_tells p body stop most past le h = let to = h.to in let same : stop ≡ end p body = omega (arith, past, to) in
    let sum = subst (λ k. most_of p body (k - body) + 3 ≤ most) same (h.few le) in
    record { rows = λ n low high. h.rows n low (omega (arith, same, high)); few = omega (arith, sum, le) }
