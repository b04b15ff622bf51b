-- A `return` that is found to leave the body at once does so by the definition.
use Rattle.std.proofs.Common.{◌≡◌, inl, refl, sym, ◌∙◌, ap, ap₂, subst, ⊎_elim, arith, ℕ, zero, suc, ◌<◌, ◌≤◌, Bool, true, false, ◌&&◌, if◌then◌else◌, List, [], ◌∷◌, length, leb, Option, Some, None, nat_eq, slice_get}
use Rattle.std.proofs.lemmas.Bool.{false≢true}
use Rattle.std.proofs.lemmas.Bool.Decides.{leb_tells, Decides-eqb, Decides-and}
use Rattle.std.proofs.lemmas.Option.{same_Some}
use Rattle.jr_tree.specs.declared.label.Label.{Label}
use Rattle.jr_tree.specs.declared.label.Label.TheVariants as is
use Rattle.jr_tree.specs.Rows.{Rows, label, parent, end}
use Rattle.jr_tree.specs.Tree.{IsTree}
use Rattle.jr_flow_defs.specs.declared.point.Point.{Point}
use Rattle.jr_flow_defs.specs.declared.point.PointKind.{PointKind}
use Rattle.jr_flow_defs.specs.declared.point.PointKind.TheVariants as kind
use Rattle.jr_flow_defs.specs.Meaning.{Meaning}
use Rattle.jr_flow_defs.specs.Acts.{Completion, normally, by_break, by_continue, by_return, by_throw, Act, part, event, node, define, use_of, quit, fork, choose, go, jump, acts_by, acts}
use Rattle.jr_flow_defs.specs.States.{Moment, before, completed, Pending, State}
use Rattle.jr_flow_defs.specs.Paths.{IsReached, IsPoint, Steps}
use Rattle.jr_flow_defs.specs.Edges.{point, act_point, exit_kind, own_number, point_by, body_flow, IsGraph}
use Rattle.jr_flow_defs.specs.Graphs.{StepList}
use Rattle.jr_flow_defs.specs.Kept.{Origin, LeavesAtOnce}
use Rattle.jr_flow_defs.proofs.Numbered.{reached_along, step_path, onward_point}
use Rattle.jr_kept.specs.Carried.{is_exit_kind, is_exit_at}
use Rattle.jr_kept.specs.Waiting.{is_finally, AreShaped, IsBelow, Waits, IsFree}
use Rattle.jr_kept.specs.Returned.{is_return, IsMoved, LeavesByNumbers}
use Rattle.jr_kept.proofs.Below.{not_true, none_finally}
use Rattle.jr_kept.proofs.Comparing.{place_at}
use Rattle.jr_kept.proofs.Going.{IsAt, IfAct, IsPart}
use Rattle.jr_kept.proofs.Waited.{In, below_in, waits_in, part_at, reached_waits}

-- ---- points

-- a node stands at such a row
abbrev IfNode : (ℕ → Type 0) → Option Point → Type 0
IfNode P None = Unit {0}
IfNode P (Some x) = x.kind ≡ kind.Node → P x.row

either_node : (P : ℕ → Type 0) (b : Bool) (x y : Option Point) → IfNode P x → IfNode P y → IfNode P (if b then x else y)
either_node P true x y h k = h
either_node P false x y h k = k

act_node : (p : Rows) (Q : ℕ → Type 0) (n : ℕ) (o : Option Act) → IfAct p Q n o → IfNode (IsAt p n) (act_point n o)
act_node p Q n None h = tt
act_node p Q n (Some (part k)) h = tt
act_node p Q n (Some (event k)) h = λ e. h
act_node p Q n (Some (node k)) h = λ e. h
act_node p Q n (Some (define k d)) h = λ e. absurd (let f = e in cc)
act_node p Q n (Some (use_of k d)) h = λ e. absurd (let f = e in cc)
act_node p Q n (Some quit) h = λ e. inl refl
act_node p Q n (Some (fork j)) h = λ e. inl refl
act_node p Q n (Some (choose b)) h = λ e. inl refl
act_node p Q n (Some (go j)) h = tt
act_node p Q n (Some (jump c)) h = λ e. inl refl

exit_node : (P : ℕ → Type 0) (n : ℕ) (c : Completion) → IfNode P (point n (exit_kind c))
exit_node P n normally = λ e. absurd (let f = e in cc)
exit_node P n (by_break x) = λ e. absurd (let f = e in cc)
exit_node P n (by_continue x) = λ e. absurd (let f = e in cc)
exit_node P n by_return = λ e. absurd (let f = e in cc)
exit_node P n by_throw = λ e. absurd (let f = e in cc)

kind_is_exit : (k : PointKind) → is_exit_kind false k ≡ true → k ≡ kind.Exit
kind_is_exit kind.Entry e = absurd (false≢true e)
kind_is_exit kind.Exit e = refl
kind_is_exit kind.Thrown e = absurd (false≢true e)
kind_is_exit kind.Node e = absurd (false≢true e)
kind_is_exit (kind.Definition d) e = absurd (false≢true e)
kind_is_exit (kind.Use d) e = absurd (false≢true e)

itself : (b : Bool) → (b ≡ true → b ≡ true) × (b ≡ true → b ≡ true)
itself b = (λ e. e, λ e. e)

exit_is : (body : ℕ) (x : Point) → is_exit_at body false (Some x) ≡ true → Some x ≡ point body kind.Exit
exit_is body x e = let both = (Decides-and (nat_eq x.row body) (is_exit_kind false x.kind) (Decides-eqb x.row body) (itself (is_exit_kind false x.kind))).0 e in
    ap₂ (λ n k. point n k) both.0 (kind_is_exit x.kind both.1)

-- ---- what is pending

-- what waits at a row waits at the row above, if it is no block of `finally`
pub waits_above : (p : Rows) (body k : ℕ) (w : Pending) → (k ≡ body → ⊥) → is_finally p k ≡ false → Waits p body k w → Waits p body (parent p k) w
waits_above p body k w apart free (Waits.none e f) = absurd (apart e)
waits_above p body k w apart free (Waits.plainly {n = n} b is h) = subst (λ z. Waits p body z w) (sym b.under) h
waits_above p body k w apart free (Waits.pushed b is e h) = absurd (false≢true (sym free ∙ is))

pub waits_from : (p : Rows) (body k : ℕ) (w : Pending) → Waits p body k w → body ≤ k
waits_from p body k w (Waits.none e f) = omega (arith, e)
waits_from p body k w (Waits.plainly {n = n} b is h) = let low = waits_from p body n w h in let behind = b.behind in omega (arith, low, behind)
waits_from p body k w (Waits.pushed {n = n} {u = u} b is e h) = let low = waits_from p body n u h in let behind = b.behind in omega (arith, low, behind)

at_most : (a b : ℕ) → leb a b ≡ true → a ≤ b
at_most a b e = ⊎_elim (λ h. h.1) (λ h. absurd (false≢true (sym h.0 ∙ e))) (leb_tells a b)

-- at the row of the body nothing is pending
pub body_free : (p : Rows) (body k : ℕ) → k ≤ body → IsFree p body k
body_free p body k le w (Waits.none e f) = f
body_free p body k le w (Waits.plainly {n = n} b is h) = let low = waits_from p body n w h in let behind = b.behind in absurd (omega (arith, le, low, behind))
body_free p body k le w (Waits.pushed {n = n} {u = u} b is e h) = let low = waits_from p body n u h in let behind = b.behind in absurd (omega (arith, le, low, behind))

pub found_free : (p : Rows) (body k : ℕ) → leb k body ≡ true → IsFree p body k
found_free p body k e = body_free p body k (at_most k body e)

-- nor is it at a row, where it never is right below
above_free : (p : Rows) (body n k : ℕ) → IsBelow p n k → IsFree p body k → IsFree p body n
above_free p body n k b free [] h = refl
above_free p body n k b free (x ∷ u) h = free (x ∷ u) (Waits.plainly b (not_true (is_finally p k) (λ is. more_than_none (free (x ∷ x ∷ u) (Waits.pushed b is refl h)))) h)
  where
    more_than_none : x ∷ x ∷ u ≡ [] → ⊥
    more_than_none e = absurd (let f = e in cc)

-- ---- by numbers, and by the definition

module _ (p q : Rows) (m : Meaning) (body : ℕ) (tree : IsTree p) (few : body < length p) (shaped : AreShaped p body) where
  point_node : (o : Moment) (n : ℕ) → In p m body tree few shaped n → IfNode (IsAt p n) (point_by o p m body n)
  point_node (before zero) n i = either_node (IsAt p n) (nat_eq n body) (point n kind.Entry) (act_point n (slice_get (acts p m n) 0)) (λ e. absurd (let f = e in cc))
      (act_node p (IsPart p n) n (slice_get (acts p m n) 0) (part_at p m body tree few shaped n 0 i))
  point_node (before (suc k)) n i = act_node p (IsPart p n) n (slice_get (acts p m n) (suc k)) (part_at p m body tree few shaped n (suc k) i)
  point_node (completed c) n i = either_node (IsAt p n) (nat_eq n body) (point n (exit_kind c)) None (exit_node (IsAt p n) n c) tt

module _ (p q : Rows) (m : Meaning) (body : ℕ) (tree : IsTree p) (few : body < length p) (points : List Point) (steps : StepList) (graph : IsGraph (body_flow p m body) body points steps)
    (method : ℕ) (origin : Origin) (leaves : LeavesByNumbers p q body method origin points steps) where
  exit_stands : (a b : State) (t : Bool) (n : ℕ) → IsReached (body_flow p m body) a → (body_flow p m body).point a ≡ point n kind.Node → IsMoved p q body method origin n
      → Steps (body_flow p m body) a b t → (body_flow p m body).point b ≡ point body kind.Exit
  exit_stands a b t n r e moved s =
      let f = body_flow p m body in
      let target = onward_point f s.next b s.onward in
      let there = reached_along f (λ z. IsPoint f z) (λ z h. h) a b r (step_path f (λ z. IsPoint f z) (λ z h. h) a b t s) in
      let stands = graph.numbering.stands a (record { row = n; kind = kind.Node }) r e in
      let step = graph.every (graph.number a) (graph.number b) t (record { from = a; to = b; reached = r; numbers = (refl, refl); steps = s }) in
      let exits = leaves.exits (graph.number a) (graph.number b) t (record { row = n; kind = kind.Node }) step stands refl moved in
      target.stands ∙ exit_is body target.point (subst (λ o. is_exit_at body false o ≡ true) (graph.numbering.stands b target.point there target.stands) exits)

  pending_none : (a : State) (n : ℕ) → IsReached (body_flow p m body) a → (body_flow p m body).point a ≡ point n kind.Node → IsAt p a.row n → IsMoved p q body method origin n → a.pending ≡ []
  pending_none a n r e at moved =
      let waits = reached_waits p m body tree few leaves.shaped a r in
      let free = leaves.free (graph.number a) (record { row = n; kind = kind.Node }) (graph.numbering.stands a (record { row = n; kind = kind.Node }) r e) refl moved in
      ⊎_elim (λ same. free a.pending (subst (λ z. Waits p body z a.pending) (sym same) waits)) (λ b. above_free p body a.row n b free a.pending waits) at

  -- each `return` that has a copy in the method leaves the body at once
  pub leaves_at_once : (n k : ℕ) → label p n ≡ is.Return → origin k ≡ Some n → method < k → k < end q method → LeavesAtOnce p m body n
  leaves_at_once n k l copy low high = λ a r e.
      let i = waits_in p m body tree few leaves.shaped a.row a.pending (reached_waits p m body tree few leaves.shaped a r) in
      let at : IsAt p a.row n = subst (λ o. IfNode (IsAt p a.row) o) e (point_node p q m body tree few leaves.shaped a.moment a.row i) refl in
      let inside : In p m body tree few leaves.shaped n = ⊎_elim (λ same. subst (In p m body tree few leaves.shaped) (sym same) i) (λ b. below_in p m body tree few leaves.shaped a.row n i b) at in
      let moved : IsMoved p q body method origin n = record { from = inside.0; to = inside.1; returns = ap is_return l; copy = k; is_copy = copy; behind = omega (arith, low); within = high } in
      (pending_none a n r e at moved, λ b t s. exit_stands a b t n r e moved s)

-- ---- and back

-- where nothing waits nothing is pending ever
free_told : (p : Rows) (body k : ℕ) (w : Pending) → Waits p body k w → w ≡ [] → IsFree p body k
free_told p body k w (Waits.none e f) none = body_free p body k (omega (arith, e))
free_told p body k w (Waits.plainly {n = n} b is h) none = λ u g. free_told p body n w h none u
    (subst (λ z. Waits p body z u) b.under (waits_above p body k u (λ same. let low = waits_from p body n w h in let behind = b.behind in absurd (omega (arith, low, behind, same))) is g))
free_told p body k w (Waits.pushed {n = n} {u = v} {c = c} b is e h) none = absurd (no_item c v (sym e ∙ none))
  where
    no_item : (x : Completion) (y : Pending) → x ∷ y ≡ [] → ⊥
    no_item x y f = absurd (let g = f in cc)

return_is : (l : Label) → is_return l ≡ true → l ≡ is.Return
return_is is.Return e = refl
return_is _ e = absurd (false≢true e)

-- no node stands at a `try`
try_node : (p : Rows) (m : Meaning) (body n : ℕ) (o : Moment) → label p n ≡ is.Try true → IfNode (λ k. ⊥) (point_by o p m body n)
try_node p m body n (before zero) e = either_node (λ k. ⊥) (nat_eq n body) (point n kind.Entry) (act_point n (slice_get (acts p m n) 0)) (λ f. absurd (let g = f in cc))
    (subst (λ l. IfNode (λ k. ⊥) (act_point n (slice_get (acts_by l p m n) 0))) (sym e) tt)
try_node p m body n (before (suc i)) e = subst (λ l. IfNode (λ k. ⊥) (act_point n (slice_get (acts_by l p m n) (suc i)))) (sym e) tt
try_node p m body n (completed c) e = either_node (λ k. ⊥) (nat_eq n body) (point n (exit_kind c)) None (exit_node (λ k. ⊥) n c) tt

module _ (p q : Rows) (m : Meaning) (body : ℕ) (tree : IsTree p) (few : body < length p) (shaped : AreShaped p body) (points : List Point) (steps : StepList) (graph : IsGraph (body_flow p m body) body points steps)
    (method : ℕ) (origin : Origin) (once : (n k : ℕ) → label p n ≡ is.Return → origin k ≡ Some n → method < k → k < end q method → LeavesAtOnce p m body n) where
  free_at : (a : State) (k : ℕ) → IsReached (body_flow p m body) a → (body_flow p m body).point a ≡ point k kind.Node → a.pending ≡ [] → IsFree p body k
  free_at a k r e none = ⊎_elim (λ same. subst (IsFree p body) (sym same) free)
      (λ b. λ w h. free w (subst (λ z. Waits p body z w) b.under (waits_above p body k w (λ same. let low = waits_from p body a.row a.pending waits in let behind = b.behind in absurd (omega (arith, low, behind, same)))
      (none_finally p a.row k (λ is_try. subst (λ o. IfNode (λ z. ⊥) o) e (try_node p m body a.row a.moment is_try) refl) b) h))) at
    where
      waits : Waits p body a.row a.pending
      waits = reached_waits p m body tree few shaped a r

      free : IsFree p body a.row
      free = free_told p body a.row a.pending waits none

      at : IsAt p a.row k
      at = subst (λ o. IfNode (IsAt p a.row) o) e (point_node p q m body tree few shaped a.moment a.row (waits_in p m body tree few shaped a.row a.pending waits)) refl

  exit_after : (j : ℕ) (b : State) (t : Bool) (a : State) → IsReached (body_flow p m body) a → Steps (body_flow p m body) a b t → graph.number b ≡ j → (body_flow p m body).point b ≡ point body kind.Exit → is_exit_at body false (slice_get points j) ≡ true
  exit_after j b t a r s is e =
      let f = body_flow p m body in
      let there = reached_along f (λ z. IsPoint f z) (λ z h. h) a b r (step_path f (λ z. IsPoint f z) (λ z h. h) a b t s) in
      ap (is_exit_at body false) (subst (λ k. slice_get points k ≡ point body kind.Exit) is (graph.numbering.stands b (record { row = body; kind = kind.Exit }) there e)) ∙ ap (λ z. z && true) ((Decides-eqb body body).1 refl)

  moved_leaves : (n : ℕ) → IsMoved p q body method origin n → LeavesAtOnce p m body n
  moved_leaves n is = let behind = is.behind in once n is.copy (return_is (label p n) is.returns) is.is_copy (omega (arith, behind)) is.within

  -- by numbers each `return` that has a copy in the method leaves the body at once
  pub numbers_at_once : LeavesByNumbers p q body method origin points steps
  numbers_at_once = record {
    shaped = shaped;
    free = λ i x stands is_node is. let place = place_at (body_flow p m body) body points steps graph i x stands (ap own_number is_node) in let e = place.stands ∙ ap (λ k. point x.row k) is_node in
        free_at place.at x.row place.reached e (moved_leaves x.row is place.at place.reached e).0;
    exits = λ i j t x c stands is_node is. let s = graph.only i j t c in let from = s.steps.from in
        let same : from.point ≡ x = same_Some from.point x (sym (subst (λ n. slice_get points n ≡ Some from.point) s.numbers.0 (graph.numbering.stands s.from from.point s.reached from.stands)) ∙ stands) in
        let e = from.stands ∙ ap Some same ∙ ap (λ k. point x.row k) is_node in
        exit_after j s.to t s.from s.reached s.steps s.numbers.1 ((moved_leaves x.row is s.from s.reached e).1 s.to t s.steps);
  }
