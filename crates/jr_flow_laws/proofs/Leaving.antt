-- Where control goes from a place of the copy: so many rows on from where it goes in the body.
use Rattle.std.proofs.Common.{◌≡◌, refl, sym, ◌∙◌, ap, ap₂, subst, arith, ℕ, zero, suc, ◌+◌, ◌<◌, ◌≤◌, Bool, true, false, ◌&&◌, if◌then◌else◌, List, [], ◌∷◌, ◌++◌, map, filter, length, Option, None, option_map, nat_eq, slice_get}
use Rattle.std.specs.List.{AllByRecursion}
use Rattle.std.proofs.lemmas.Bool.{false≢true}
use Rattle.std.proofs.lemmas.Bool.Decides.{Decides-eqb}
use Rattle.std.proofs.lemmas.List.{length-map}
use Rattle.std.proofs.lemmas.Option.{slice_get-map}
use Rattle.jr_tree.specs.declared.label.Label.{Label}
use Rattle.jr_tree.specs.declared.label.Label.TheVariants as is
use Rattle.jr_tree.specs.Rows.{Rows, label, parent}
use Rattle.jr_flow_defs.specs.declared.point.Point.{Point}
use Rattle.jr_flow_defs.specs.declared.point.PointKind.TheVariants as kind
use Rattle.jr_flow_defs.specs.Meaning.{Meaning}
use Rattle.jr_flow_defs.specs.Acts.{Completion, normally, by_break, by_continue, by_return, by_throw, Act, part, event, node, define, use_of, quit, fork, choose, go, jump, Acts, acts, children, last, is_catch, next_turn}
use Rattle.jr_flow_defs.specs.States.{Moment, before, completed, Pending, State, Hop, at, left, plainly, act_hops, is_part, behind, part_left, catches, into_finally, body_left, finally_left, try_left, left_by, as_left, ending, hops_by, hops}
use Rattle.jr_flow_defs.specs.Edges.{point, act_point, exit_kind, point_by}
use Rattle.jr_flow_defs.specs.Kept.{each_hop}
use Rattle.jr_flow_defs.specs.Copied.{moved_point}
use Rattle.jr_flow_laws.specs.Shifted.{moved_completion, moved_moment, moved_state, IsIn, IsWholeBody, AreShiftedRows}
use Rattle.jr_flow_laws.proofs.Moving.{same_number, choice_over, moved_act, IfAct, act_at, all_append, HopIn, later, act_hops_over, act_point_over, act_hops_in, IfPoint, act_point_in}
use Rattle.jr_flow_laws.proofs.Standing.{filter_over, filter_in, parent_in, children_in, last_row_in, next_over, children_over, last_row_over}
use Rattle.jr_flow_laws.proofs.Meant.{parent_label_over}
use Rattle.jr_flow_laws.proofs.Acting.{acts_over}

-- ---- states that go over

abbrev pub StateIn : (ℕ → Type 0) → State → Type 0
StateIn P a = P a.row

-- the states of the copy are those of the body, and all stand at such rows
pub record AreOver (s : ℕ) (P : ℕ → Type 0) (here there : List State) : Type 0 where
  pub moved : there ≡ map (moved_state s) here
  pub inside : AllByRecursion (StateIn P) here

pub one_state : (s : ℕ) (P : ℕ → Type 0) (a b : State) → b ≡ moved_state s a → P a.row → AreOver s P (a ∷ []) (b ∷ [])
one_state s P a b e h = record { moved = ap (λ z. z ∷ []) e; inside = (h, tt) }

more_states : (s : ℕ) (P : ℕ → Type 0) (xs ys us vs : List State) → AreOver s P xs us → AreOver s P ys vs → AreOver s P (xs ++ ys) (us ++ vs)
more_states s P xs ys us vs h k = record {
  moved = ap₂ (λ x y. x ++ y) h.moved k.moved ∙ sym (appended xs ys);
  inside = all_append (StateIn P) xs ys h.inside k.inside;
} where
  appended : (xs ys : List State) → map (moved_state s) (xs ++ ys) ≡ map (moved_state s) xs ++ map (moved_state s) ys
  appended [] ys = refl
  appended (x ∷ xs) ys = ap (λ z. moved_state s x ∷ z) (appended xs ys)

either_state : (s : ℕ) (P : ℕ → Type 0) (b c : Bool) (xs ys us vs : List State) → c ≡ b → AreOver s P xs us → AreOver s P ys vs → AreOver s P (if b then xs else ys) (if c then us else vs)
either_state s P true true xs ys us vs e h k = h
either_state s P false false xs ys us vs e h k = k
either_state s P true false xs ys us vs e h k = absurd (false≢true e)
either_state s P false true xs ys us vs e h k = absurd (false≢true (sym e))

-- ---- a part has completed

part_over : (s k : ℕ) (a : Act) → is_part (k + s) (moved_act s a) ≡ is_part k a
part_over s k (part j) = same_number s j k
part_over s k (event j) = refl
part_over s k (node j) = refl
part_over s k (define j d) = refl
part_over s k (use_of j d) = refl
part_over s k quit = refl
part_over s k (fork j) = refl
part_over s k (choose b) = refl
part_over s k (go j) = refl
part_over s k (jump c) = refl

behind_over : (s k : ℕ) (all : Acts) → behind (map (moved_act s) all) (k + s) ≡ behind all k
behind_over s k [] = refl
behind_over s k (a ∷ all) = ap₂ (λ t n. if t then 1 else n + 1) (part_over s k a) (behind_over s k all)

part_left_over : (s : ℕ) (all : Acts) (l : Label) (n k : ℕ) (c : Completion) (w : Pending) → part_left (map (moved_act s) all) l (n + s) (k + s) (moved_completion s c) (later s w) ≡ moved_state s (part_left all l n k c w)
part_left_over s all l n k normally w = ap (λ i. at (n + s) i (later s w)) (behind_over s k all)
part_left_over s all l n k (by_break x) w = choice_over (moved_state s) (nat_eq x n) (nat_eq (x + s) (n + s)) (left n normally w) (left n (by_break x) w) (left (n + s) normally (later s w)) (left (n + s) (by_break (x + s)) (later s w)) (same_number s x n) refl refl
part_left_over s all l n k (by_continue x) w = choice_over (moved_state s) (nat_eq x n) (nat_eq (x + s) (n + s)) (at n (next_turn l) w) (left n (by_continue x) w) (at (n + s) (next_turn l) (later s w)) (left (n + s) (by_continue (x + s)) (later s w)) (same_number s x n) refl refl
part_left_over s all l n k by_return w = refl
part_left_over s all l n k by_throw w = refl

either_row : (P : ℕ → Type 0) (b : Bool) (x y : State) → P x.row → P y.row → P (if b then x else y).row
either_row P true x y h k = h
either_row P false x y h k = k

part_left_in : (P : ℕ → Type 0) (all : Acts) (l : Label) (n k : ℕ) (c : Completion) (w : Pending) → P n → P (part_left all l n k c w).row
part_left_in P all l n k normally w h = h
part_left_in P all l n k (by_break x) w h = either_row P (nat_eq x n) (left n normally w) (left n (by_break x) w) h h
part_left_in P all l n k (by_continue x) w h = either_row P (nat_eq x n) (at n (next_turn l) w) (left n (by_continue x) w) h h
part_left_in P all l n k by_return w h = h
part_left_in P all l n k by_throw w h = h

-- ---- the end of a block of `finally`

finally_over : (s : ℕ) (P : ℕ → Type 0) (n : ℕ) → P n → (c : Completion) (w : Pending) → AreOver s P (finally_left n c w) (finally_left (n + s) (moved_completion s c) (later s w))
finally_over s P n h normally [] = record { moved = refl; inside = tt }
finally_over s P n h normally (x ∷ w) = record { moved = refl; inside = (h, tt) }
finally_over s P n h (by_break y) [] = record { moved = refl; inside = tt }
finally_over s P n h (by_break y) (x ∷ w) = record { moved = refl; inside = (h, tt) }
finally_over s P n h (by_continue y) [] = record { moved = refl; inside = tt }
finally_over s P n h (by_continue y) (x ∷ w) = record { moved = refl; inside = (h, tt) }
finally_over s P n h by_return [] = record { moved = refl; inside = tt }
finally_over s P n h by_return (x ∷ w) = record { moved = refl; inside = (h, tt) }
finally_over s P n h by_throw [] = record { moved = refl; inside = tt }
finally_over s P n h by_throw (x ∷ w) = record { moved = refl; inside = (h, tt) }

-- ---- out of the body

as_left_over : (s : ℕ) (o : Moment) → as_left (moved_moment s o) ≡ moved_moment s (as_left o)
as_left_over s (before i) = refl
as_left_over s (completed normally) = refl
as_left_over s (completed (by_break x)) = refl
as_left_over s (completed (by_continue x)) = refl
as_left_over s (completed by_return) = refl
as_left_over s (completed by_throw) = refl

ending_over : (s body : ℕ) (a : State) → ending (body + s) (moved_state s a) ≡ moved_state s (ending body a)
ending_over s body a = choice_over (moved_state s) (nat_eq a.row body) (nat_eq (a.row + s) (body + s)) (record { row = a.row; moment = as_left a.moment; pending = a.pending }) a
    (record { row = a.row + s; moment = as_left (moved_moment s a.moment); pending = later s a.pending }) (moved_state s a) (same_number s a.row body)
    (ap (λ o. record { row = a.row + s; moment = o; pending = later s a.pending }) (as_left_over s a.moment)) refl

all_ending : (s body : ℕ) (all : List State) → map (λ a. plainly (ending (body + s) a)) (map (moved_state s) all) ≡ each_hop (moved_state s) (map (λ a. plainly (ending body a)) all)
all_ending s body [] = refl
all_ending s body (a ∷ all) = ap₂ (λ x y. plainly x ∷ y) (ending_over s body a) (all_ending s body all)

ending_in : (P : ℕ → Type 0) (body : ℕ) (all : List State) → AllByRecursion (StateIn P) all → AllByRecursion (HopIn P) (map (λ a. plainly (ending body a)) all)
ending_in P body [] h = tt
ending_in P body (a ∷ all) h = (either_row P (nat_eq a.row body) (record { row = a.row; moment = as_left a.moment; pending = a.pending }) a h.0 h.0, ending_in P body all h.1)

module _ (p q : Rows) (m w : Meaning) (body s : ℕ) (outside : ℕ → ℕ) (whole : IsWholeBody p m body) (rows : AreShiftedRows p q m w body s outside) where
  abbrev In : ℕ → Type 0
  In = IsIn p body

  abbrev Over : List State → List State → Type 0
  Over = AreOver s In

  -- ---- `try`

  starts_over : (all : List ℕ) (z : Pending) → AllByRecursion In all → Over (map (λ k. at k 0 z) all) (map (λ k. at k 0 (later s z)) (map (λ k. k + s) all))
  starts_over [] z h = record { moved = refl; inside = tt }
  starts_over (k ∷ all) z h = more_states s In (at k 0 z ∷ []) (map (λ k. at k 0 z) all) (at (k + s) 0 (later s z) ∷ []) (map (λ k. at k 0 (later s z)) (map (λ k. k + s) all))
      (one_state s In (at k 0 z) (at (k + s) 0 (later s z)) refl h.0) (starts_over all z h.1)

  catches_at : (n : ℕ) → In n → catches q (n + s) ≡ map (λ k. k + s) (catches p n)
  catches_at n i = ap (filter (λ k. is_catch (label q k))) (children_over p q m w body s outside whole rows n i)
      ∙ filter_over In s (λ k. is_catch (label p k)) (λ k. is_catch (label q k)) (λ k h. ap is_catch (rows.labels k h)) (children p n) (children_in p m body whole n i)

  catches_over : (n : ℕ) (z : Pending) → In n → Over (map (λ k. at k 0 z) (catches p n)) (map (λ k. at k 0 (later s z)) (catches q (n + s)))
  catches_over n z i = subst (λ all. Over (map (λ k. at k 0 z) (catches p n)) (map (λ k. at k 0 (later s z)) all)) (sym (catches_at n i))
      (starts_over (catches p n) z (filter_in In (λ k. is_catch (label p k)) (children p n) (children_in p m body whole n i)))

  into_over : (n : ℕ) (b : Bool) (c : Completion) (z : Pending) → In n → Over (into_finally p n b c z ∷ []) (into_finally q (n + s) b (moved_completion s c) (later s z) ∷ [])
  into_over n true c z i = one_state s In (at (last p n) 0 (c ∷ z)) (at (last q (n + s)) 0 (moved_completion s c ∷ later s z))
      (ap (λ k. at k 0 (moved_completion s c ∷ later s z)) (last_row_over p q m w body s outside whole rows n i)) (last_row_in p m body whole n i)
  into_over n false c z i = one_state s In (left n c z) (left (n + s) (moved_completion s c) (later s z)) refl i

  body_over : (n : ℕ) (b : Bool) (c : Completion) (z : Pending) → In n → Over (body_left p n b c z) (body_left q (n + s) b (moved_completion s c) (later s z))
  body_over n b normally z i = into_over n b normally z i
  body_over n b (by_break x) z i = into_over n b (by_break x) z i
  body_over n b (by_continue x) z i = into_over n b (by_continue x) z i
  body_over n b by_return z i = into_over n b by_return z i
  body_over n b by_throw z i = more_states s In (map (λ k. at k 0 z) (catches p n)) (into_finally p n b by_throw z ∷ [])
      (map (λ k. at k 0 (later s z)) (catches q (n + s))) (into_finally q (n + s) b by_throw (later s z) ∷ []) (catches_over n z i) (into_over n b by_throw z i)

  try_over : (n : ℕ) (b : Bool) (k : ℕ) (c : Completion) (z : Pending) → In n → Over (try_left p n b k c z) (try_left q (n + s) b (k + s) (moved_completion s c) (later s z))
  try_over n b k c z i =
      either_state s In (nat_eq k (n + 1)) (nat_eq (k + s) (n + s + 1)) (body_left p n b c z) (if b && nat_eq k (last p n) then finally_left n c z else into_finally p n b c z ∷ [])
      (body_left q (n + s) b (moved_completion s c) (later s z))
      (if b && nat_eq (k + s) (last q (n + s)) then finally_left (n + s) (moved_completion s c) (later s z) else into_finally q (n + s) b (moved_completion s c) (later s z) ∷ [])
      (ap (nat_eq (k + s)) (next_over p q m w body s outside whole rows n) ∙ same_number s k (n + 1)) (body_over n b c z i)
      (either_state s In (b && nat_eq k (last p n)) (b && nat_eq (k + s) (last q (n + s))) (finally_left n c z) (into_finally p n b c z ∷ [])
      (finally_left (n + s) (moved_completion s c) (later s z)) (into_finally q (n + s) b (moved_completion s c) (later s z) ∷ [])
      (ap (λ t. b && t) (ap (nat_eq (k + s)) (last_row_over p q m w body s outside whole rows n i) ∙ same_number s k (last p n))) (finally_over s In n i c z) (into_over n b c z i))

  -- ---- a row has completed

  plain_over : (l : Label) (n k : ℕ) (c : Completion) (z : Pending) → In n → Over (part_left (acts p m n) l n k c z ∷ []) (part_left (acts q w (n + s)) l (n + s) (k + s) (moved_completion s c) (later s z) ∷ [])
  plain_over l n k c z i = one_state s In (part_left (acts p m n) l n k c z) (part_left (acts q w (n + s)) l (n + s) (k + s) (moved_completion s c) (later s z))
      (ap (λ all. part_left all l (n + s) (k + s) (moved_completion s c) (later s z)) (acts_over p q m w body s outside whole rows n i).moved ∙ part_left_over s (acts p m n) l n k c z)
      (part_left_in In (acts p m n) l n k c z i)

  left_by_over : (l : Label) (n k : ℕ) (c : Completion) (z : Pending) → In n → Over (left_by l p m n k c z) (left_by l q w (n + s) (k + s) (moved_completion s c) (later s z))
  left_by_over (is.Try b) n k c z i = try_over n b k c z i
  left_by_over l n k c z i = plain_over l n k c z i

  -- out of the row n below that of the body
  left_over : (n : ℕ) (c : Completion) (z : Pending) → In n → body < n
      → Over (left_by (label p (parent p n)) p m (parent p n) n c z) (left_by (label q (parent q (n + s))) q w (parent q (n + s)) (n + s) (moved_completion s c) (later s z))
  left_over n c z i less =
      subst (λ l. Over (left_by (label p (parent p n)) p m (parent p n) n c z) (left_by l q w (parent q (n + s)) (n + s) (moved_completion s c) (later s z))) (sym (parent_label_over p q m w body s outside whole rows n i less))
      (subst (λ k. Over (left_by (label p (parent p n)) p m (parent p n) n c z) (left_by (label p (parent p n)) q w k (n + s) (moved_completion s c) (later s z))) (sym (rows.parents n i less))
      (left_by_over (label p (parent p n)) (parent p n) n c z (parent_in p m body whole n i less)))

  -- ---- all together

  -- the hops of the copy, and where they lead to
  pub record HopsGoOver (here there : List (Hop State)) : Type 0 where
    pub moved : there ≡ each_hop (moved_state s) here
    pub inside : AllByRecursion (HopIn In) here

  completed_over : (t u : Bool) (here there : List State) → u ≡ t → (t ≡ false → Over here there)
      → HopsGoOver (if t then [] else map (λ a. plainly (ending body a)) here) (if u then [] else map (λ a. plainly (ending (body + s) a)) there)
  completed_over true true here there e h = record { moved = refl; inside = tt }
  completed_over false false here there e h = record {
    moved = ap (map (λ a. plainly (ending (body + s) a))) (h refl).moved ∙ all_ending s body here;
    inside = ending_in In body here (h refl).inside;
  }
  completed_over true false here there e h = absurd (false≢true e)
  completed_over false true here there e h = absurd (false≢true (sym e))

  other_row : (n : ℕ) → In n → nat_eq n body ≡ false → body < n
  other_row n i e = strictly i.from (λ same. false≢true (sym e ∙ (Decides-eqb n body).1 (sym same))) where
    strictly : body ≤ n → (body ≡ n → ⊥) → body < n
    strictly h k = grind (arith, h, k)

  acts_at : (n i : ℕ) → In n → slice_get (acts q w (n + s)) i ≡ option_map (moved_act s) (slice_get (acts p m n) i)
  acts_at n i h = ap (λ all. slice_get all i) (acts_over p q m w body s outside whole rows n h).moved ∙ slice_get-map (moved_act s) (acts p m n) i

  act_inside : (n i : ℕ) → In n → IfAct In (slice_get (acts p m n) i)
  act_inside n i h = act_at In (acts p m n) i (acts_over p q m w body s outside whole rows n h).inside

  hops_by_over : (o : Moment) (n : ℕ) (z : Pending) → In n → HopsGoOver (hops_by o p m body n z) (hops_by (moved_moment s o) q w (body + s) (n + s) (later s z))
  hops_by_over (before i) n z h = record {
    moved = ap₂ (λ a c. act_hops a (n + s) i c (later s z)) (acts_at n i h) (ap length (acts_over p q m w body s outside whole rows n h).moved ∙ length-map (acts p m n) (moved_act s))
        ∙ act_hops_over s (slice_get (acts p m n) i) n i (length (acts p m n)) z;
    inside = act_hops_in In (slice_get (acts p m n) i) n i (length (acts p m n)) z h (act_inside n i h);
  }
  hops_by_over (completed c) n z h = completed_over (nat_eq n body) (nat_eq (n + s) (body + s)) (left_by (label p (parent p n)) p m (parent p n) n c z)
      (left_by (label q (parent q (n + s))) q w (parent q (n + s)) (n + s) (moved_completion s c) (later s z)) (same_number s n body) (λ e. left_over n c z h (other_row n h e))

  pub hops_over : (a : State) → In a.row → HopsGoOver (hops p m body a) (hops q w (body + s) (moved_state s a))
  hops_over a h = hops_by_over a.moment a.row a.pending h

  -- ---- points

  act_point_at : (n i : ℕ) → In n → act_point (n + s) (slice_get (acts q w (n + s)) i) ≡ option_map (moved_point (λ k. k + s)) (act_point n (slice_get (acts p m n) i))
  act_point_at n i h = ap (act_point (n + s)) (acts_at n i h) ∙ act_point_over s (slice_get (acts p m n) i) n

  pub point_over : (o : Moment) (n : ℕ) → In n → point_by (moved_moment s o) q w (body + s) (n + s) ≡ option_map (moved_point (λ k. k + s)) (point_by o p m body n)
  point_over (before zero) n h = choice_over (option_map (moved_point (λ k. k + s))) (nat_eq n body) (nat_eq (n + s) (body + s)) (point n kind.Entry) (act_point n (slice_get (acts p m n) 0)) (point (n + s) kind.Entry) (act_point (n + s) (slice_get (acts q w (n + s)) 0))
      (same_number s n body) refl (act_point_at n 0 h)
  point_over (before (suc i)) n h = act_point_at n (suc i) h
  point_over (completed c) n h = choice_over (option_map (moved_point (λ k. k + s))) (nat_eq n body) (nat_eq (n + s) (body + s)) (point n (exit_kind c)) None (point (n + s) (exit_kind (moved_completion s c))) None
      (same_number s n body) (exit_point c) refl where
        exit_point : (c : Completion) → point (n + s) (exit_kind (moved_completion s c)) ≡ option_map (moved_point (λ k. k + s)) (point n (exit_kind c))
        exit_point normally = refl
        exit_point (by_break x) = refl
        exit_point (by_continue x) = refl
        exit_point by_return = refl
        exit_point by_throw = refl

  either_point : (b : Bool) (x y : Option Point) → IfPoint In x → IfPoint In y → IfPoint In (if b then x else y)
  either_point true x y h k = h
  either_point false x y h k = k

  pub point_in : (o : Moment) (n : ℕ) → In n → IfPoint In (point_by o p m body n)
  point_in (before zero) n h = either_point (nat_eq n body) (point n kind.Entry) (act_point n (slice_get (acts p m n) 0)) h (act_point_in In (slice_get (acts p m n) 0) n h (act_inside n 0 h))
  point_in (before (suc i)) n h = act_point_in In (slice_get (acts p m n) (suc i)) n h (act_inside n (suc i) h)
  point_in (completed c) n h = either_point (nat_eq n body) (point n (exit_kind c)) None h tt
