-- The flow of a body with a method in place of its call, and its graph.
use Rattle.std.proofs.Common.{◌≡◌, ⊎_elim, refl, sym, ◌∙◌, ap, subst, arith, ℕ, zero, suc, ◌+◌, ◌<◌, Bool, true, false, if◌then◌else◌, List, [], ◌∷◌, ◌++◌, filter, map, length, Option, Some, None, nat_eq, slice_get}
use Rattle.std.specs.List.{Contains}
use Rattle.std.proofs.lemmas.Bool.{false≢true}
use Rattle.std.proofs.lemmas.Bool.Decides.{Decides-eqb}
use Rattle.std.proofs.lemmas.Option.{none-some, same_Some}
use Rattle.jr_tree.specs.Rows.{Rows, label, parent}
use Rattle.jr_flow_defs.specs.declared.point.Point.{Point}
use Rattle.jr_flow_defs.specs.declared.point.PointKind.{PointKind}
use Rattle.jr_flow_defs.specs.declared.point.PointKind.TheVariants as kind
use Rattle.jr_flow_defs.specs.Meaning.{Meaning}
use Rattle.jr_flow_defs.specs.Acts.{Completion, normally, by_break, by_continue, by_return, by_throw, Act, part, event, node, define, use_of, quit, fork, choose, go, jump, acts}
use Rattle.jr_flow_defs.specs.States.{Moment, before, completed, State, Hop, at, plainly, is_throw, left_by, ending, hops_by, hops}
use Rattle.jr_flow_defs.specs.Paths.{Flow, Goes, IsReached, IsPoint, Onward, Steps}
use Rattle.jr_flow_defs.specs.Edges.{point, act_point, exit_kind, point_by, body_flow, own_number, IsGraph}
use Rattle.jr_flow_defs.specs.Graphs.{StepList}
use Rattle.jr_flow_defs.specs.Kept.{Within, outside, inside, each_hop, is_call_at, same_way, returned, is_exit, joined_flow}
use Rattle.jr_flow_defs.proofs.Searched.{contains_out, contains_first, contains_more}
use Rattle.jr_flow.proofs.Gets.{front_get}
use Rattle.jr_kept.specs.Spliced.{calls_in, copies, base_at, exit_number, IsJoinedStep, AreJoinedSteps, IsLooseGraph}
use Rattle.jr_kept.proofs.Naming.{get_inside}
use Rattle.jr_kept.proofs.Comparing.{steps_within}
use Rattle.jr_kept.proofs.Splicing.{call_below, calls_apart, call_found, base_least, base_apart, copy_get}

none_in : {A : Type 0} (x : A) → Contains [] x → ⊥
none_in x h = absurd (omega (arith, h.1))

-- ---- hops that are moved

each_into : {A B : Type 0} (move : A → B) (all : List (Hop A)) (a : A) (t : Bool) → Contains all (record { to = a; is_throw = t }) → Contains (each_hop move all) (record { to = move a; is_throw = t })
each_into move [] a t c = absurd (none_in _ c)
each_into move (one ∷ all) a t c = ⊎_elim
    (λ same. subst (λ z. Contains (each_hop move (one ∷ all)) (record { to = move z.to; is_throw = z.is_throw })) same (contains_first (record { to = move one.to; is_throw = one.is_throw }) (each_hop move all)))
    (λ more. contains_more (record { to = move one.to; is_throw = one.is_throw }) (each_hop move all) (record { to = move a; is_throw = t }) (each_into move all a t more))
    (contains_out one all (record { to = a; is_throw = t }) c)

-- a hop of before
record IsMoved {A B : Type 0} (move : A → B) (all : List (Hop A)) (b : B) (t : Bool) : Type 0 where
  to : A
  same : b ≡ move to
  hop : Contains all (record { to = to; is_throw = t })

each_out : {A B : Type 0} (move : A → B) (all : List (Hop A)) (b : B) (t : Bool) → Contains (each_hop move all) (record { to = b; is_throw = t }) → IsMoved move all b t
each_out move [] b t c = absurd (none_in _ c)
each_out move (one ∷ all) b t c = ⊎_elim
    (λ e. record { to = one.to; same = sym (ap (λ z. z.to) e); hop = subst (λ u. Contains (one ∷ all) (record { to = one.to; is_throw = u })) (ap (λ z. z.is_throw) e) (contains_first one all) })
    (λ more. let o = each_out move all b t more in record { to = o.to; same = o.same; hop = contains_more one all (record { to = o.to; is_throw = t }) o.hop })
    (contains_out (record { to = move one.to; is_throw = one.is_throw }) (each_hop move all) (record { to = b; is_throw = t }) c)

filter_out : {A : Type 0} (test : A → Bool) (all : List A) (x : A) → Contains (filter test all) x → Contains all x × (test x ≡ true)
filter_out test [] x c = absurd (none_in x c)
filter_out test (y ∷ all) x c = by (test y) refl c (λ d. filter_out test all x d)
  where
    by : (b : Bool) → test y ≡ b → Contains (if b then y ∷ filter test all else filter test all) x → (Contains (filter test all) x → Contains all x × (test x ≡ true)) → Contains (y ∷ all) x × (test x ≡ true)
    by true is d rest = ⊎_elim (λ same. (subst (Contains (y ∷ all)) same (contains_first y all), subst (λ z. test z ≡ true) same is)) (λ more. let o = rest more in (contains_more y all x o.0, o.1)) (contains_out y (filter test all) x d)
    by false is d rest = let o = rest d in (contains_more y all x o.0, o.1)

filter_into : {A : Type 0} (test : A → Bool) (all : List A) (x : A) → test x ≡ true → Contains all x → Contains (filter test all) x
filter_into test [] x e c = absurd (none_in x c)
filter_into test (y ∷ all) x e c = ⊎_elim
    (λ same. subst (λ b. Contains (if b then y ∷ filter test all else filter test all) x) (sym (ap test same ∙ e)) (subst (λ z. Contains (y ∷ filter test all) z) same (contains_first y (filter test all))))
    (λ more. by (test y) (filter_into test all x e more))
    (contains_out y all x c)
  where
    by : (b : Bool) → Contains (filter test all) x → Contains (if b then y ∷ filter test all else filter test all) x
    by true d = contains_more y (filter test all) x d
    by false d = d

way_out : {A : Type 0} (c t : Bool) (a : A) → same_way c (record { to = a; is_throw = t }) ≡ true → t ≡ c
way_out true t a e = e
way_out false true a e = absurd (false≢true e)
way_out false false a e = refl

way_into : {A : Type 0} (t : Bool) (a : A) → same_way t (record { to = a; is_throw = t }) ≡ true
way_into true a = refl
way_into false a = refl

pub not_true : (b : Bool) → (b ≡ true → ⊥) → b ≡ false
not_true true h = absurd (h refl)
not_true false h = refl

no_point : {A : Type 0} (f : Flow A) (a : A) → (IsPoint f a → ⊥) → f.point a ≡ None
no_point f a none = by (f.point a) refl
  where
    by : (o : Option Point) → f.point a ≡ o → f.point a ≡ None
    by None e = e
    by (Some x) e = absurd (none (record { point = x; stands = e }))

-- ---- points of a body

no_own_point : (n row : ℕ) (k : PointKind) (number : ℕ) (o : Option Act) → own_number k ≡ Some number → act_point n o ≡ point row k → ⊥
no_own_point n row k number None own e = none-some _ e
no_own_point n row k number (Some (part j)) own e = none-some _ e
no_own_point n row k number (Some (go j)) own e = none-some _ e
no_own_point n row k number (Some (event j)) own e = none-some number (ap own_number (ap (λ x. x.kind) (same_Some (record { row = j; kind = kind.Node }) (record { row = row; kind = k }) e)) ∙ own)
no_own_point n row k number (Some (node j)) own e = none-some number (ap own_number (ap (λ x. x.kind) (same_Some (record { row = j; kind = kind.Node }) (record { row = row; kind = k }) e)) ∙ own)
no_own_point n row k number (Some (define j d)) own e = none-some number (ap own_number (ap (λ x. x.kind) (same_Some (record { row = j; kind = kind.Definition d }) (record { row = row; kind = k }) e)) ∙ own)
no_own_point n row k number (Some (use_of j d)) own e = none-some number (ap own_number (ap (λ x. x.kind) (same_Some (record { row = j; kind = kind.Use d }) (record { row = row; kind = k }) e)) ∙ own)
no_own_point n row k number (Some quit) own e = none-some number (ap own_number (ap (λ x. x.kind) (same_Some (record { row = n; kind = kind.Node }) (record { row = row; kind = k }) e)) ∙ own)
no_own_point n row k number (Some (fork j)) own e = none-some number (ap own_number (ap (λ x. x.kind) (same_Some (record { row = n; kind = kind.Node }) (record { row = row; kind = k }) e)) ∙ own)
no_own_point n row k number (Some (choose b)) own e = none-some number (ap own_number (ap (λ x. x.kind) (same_Some (record { row = n; kind = kind.Node }) (record { row = row; kind = k }) e)) ∙ own)
no_own_point n row k number (Some (jump c)) own e = none-some number (ap own_number (ap (λ x. x.kind) (same_Some (record { row = n; kind = kind.Node }) (record { row = row; kind = k }) e)) ∙ own)

exit_numbered : (c : Completion) → own_number (exit_kind c) ≡ Some (exit_number (is_throw c))
exit_numbered normally = refl
exit_numbered (by_break n) = refl
exit_numbered (by_continue n) = refl
exit_numbered by_return = refl
exit_numbered by_throw = refl

one_exit : (t u : Bool) → exit_number t ≡ exit_number u → t ≡ u
one_exit true true e = refl
one_exit false false e = refl
one_exit true false e = absurd (omega (arith, e))
one_exit false true e = absurd (omega (arith, e))

module _ (p : Rows) (m : Meaning) (body : ℕ) where
  -- the entry and the exits stand at the row of the body
  pub own_row : (mo : Moment) (n row : ℕ) (k : PointKind) (number : ℕ) → own_number k ≡ Some number → point_by mo p m body n ≡ point row k → row ≡ body
  own_row (before zero) n row k number own e = by (nat_eq n body) (Decides-eqb n body).0 e
    where
      by : (b : Bool) → (b ≡ true → n ≡ body) → (if b then point n kind.Entry else act_point n (slice_get (acts p m n) 0)) ≡ point row k → row ≡ body
      by true tells f = sym (ap (λ x. x.row) (same_Some (record { row = n; kind = kind.Entry }) (record { row = row; kind = k }) f)) ∙ tells refl
      by false tells f = absurd (no_own_point n row k number (slice_get (acts p m n) 0) own f)
  own_row (before (suc i)) n row k number own e = absurd (no_own_point n row k number (slice_get (acts p m n) (suc i)) own e)
  own_row (completed c) n row k number own e = by (nat_eq n body) (Decides-eqb n body).0 e
    where
      by : (b : Bool) → (b ≡ true → n ≡ body) → (if b then point n (exit_kind c) else None) ≡ point row k → row ≡ body
      by true tells f = sym (ap (λ x. x.row) (same_Some (record { row = n; kind = exit_kind c }) (record { row = row; kind = k }) f)) ∙ tells refl
      by false tells f = absurd (none-some (record { row = row; kind = k }) f)

  -- the body is left, with a throw or not
  pub record IsLeft (mo : Moment) (n : ℕ) (t : Bool) : Type 0 where
    how : Completion
    left : mo ≡ completed how
    pub leaves : is_exit mo body n ≡ true
    thrown : is_throw how ≡ t

  pub exit_tells : (mo : Moment) (n : ℕ) → is_exit mo body n ≡ true → (t : Bool) × IsLeft mo n t
  exit_tells (before i) n e = absurd (false≢true e)
  exit_tells (completed c) n e = (is_throw c, record { how = c; left = refl; leaves = e; thrown = refl })

  -- at an exit stands its point
  pub exit_stands : (mo : Moment) (n : ℕ) (t : Bool) → IsLeft mo n t → (k : PointKind) × (point_by mo p m body n ≡ point body k) × (own_number k ≡ Some (exit_number t))
  exit_stands (before i) n t h = absurd (false≢true h.leaves)
  exit_stands (completed c) n t h = (
    exit_kind h.how,
    ap (λ mo. point_by mo p m body n) h.left ∙ ap (λ b. if b then point n (exit_kind h.how) else None) h.leaves ∙ ap (λ z. point z (exit_kind h.how)) ((Decides-eqb n body).0 h.leaves),
    exit_numbered h.how ∙ ap (λ u. Some (exit_number u)) h.thrown,
  )

  -- where the point of an exit stands the body is left
  pub exit_at : (mo : Moment) (n row : ℕ) (k : PointKind) (t : Bool) → own_number k ≡ Some (exit_number t) → point_by mo p m body n ≡ point row k → IsLeft mo n t
  exit_at (before zero) n row k t own e = by (nat_eq n body) e
    where
      not_entry : (u : Bool) → own_number kind.Entry ≡ Some (exit_number u) → ⊥
      not_entry true f = let same = same_Some 0 2 f in omega (arith, same)
      not_entry false f = let same = same_Some 0 1 f in omega (arith, same)

      by : (b : Bool) → (if b then point n kind.Entry else act_point n (slice_get (acts p m n) 0)) ≡ point row k → IsLeft (before zero) n t
      by true f = absurd (not_entry t (ap own_number (ap (λ x. x.kind) (same_Some (record { row = n; kind = kind.Entry }) (record { row = row; kind = k }) f)) ∙ own))
      by false f = absurd (no_own_point n row k (exit_number t) (slice_get (acts p m n) 0) own f)
  exit_at (before (suc i)) n row k t own e = absurd (no_own_point n row k (exit_number t) (slice_get (acts p m n) (suc i)) own e)
  exit_at (completed c) n row k t own e = by (nat_eq n body) refl e
    where
      by : (b : Bool) → nat_eq n body ≡ b → (if b then point n (exit_kind c) else None) ≡ point row k → IsLeft (completed c) n t
      by true is f = record {
        how = c;
        left = refl;
        leaves = is;
        thrown = one_exit (is_throw c) t (same_Some (exit_number (is_throw c)) (exit_number t) (sym (exit_numbered c) ∙ ap own_number (ap (λ x. x.kind) (same_Some (record { row = n; kind = exit_kind c }) (record { row = row; kind = k }) f)) ∙ own));
      }
      by false is f = absurd (none-some (record { row = row; kind = k }) f)

  none_if : {A : Type 0} (b : Bool) (xs : List A) → b ≡ true → (if b then [] else xs) ≡ []
  none_if b xs e = ap (λ z. if z then [] else xs) e

  -- nothing comes behind an exit
  pub exit_ends : (a b : State) (t : Bool) → is_exit a.moment body a.row ≡ true → Contains (hops p m body a) (record { to = b; is_throw = t }) → ⊥
  exit_ends a b t e c = let l = (exit_tells a.moment a.row e).1 in let here : nat_eq a.row body ≡ true = sym (ap (λ z. is_exit z body a.row) l.left) ∙ e in
      none_in _ (subst (λ xs. Contains xs (record { to = b; is_throw = t })) (ap (λ mo. hops_by mo p m body a.row a.pending) l.left ∙ none_if (nat_eq a.row body) (map (λ x. plainly (ending body x)) (left_by (label p (parent p a.row)) p m (parent p a.row) a.row l.how a.pending)) here) c)

  entry_stands : (body_flow p m body).point (at body 0 []) ≡ point body kind.Entry
  entry_stands = ap (λ b. if b then point body kind.Entry else act_point body (slice_get (acts p m body) 0)) ((Decides-eqb body body).1 refl)

-- ---- the turn of a call

abbrev index_in : List ℕ → ℕ → ℕ
index_in [] k = 0
index_in (x ∷ xs) k = if nat_eq x k then 0 else suc (index_in xs k)

index_gets : (xs : List ℕ) (k s : ℕ) → slice_get xs s ≡ Some k → slice_get xs (index_in xs k) ≡ Some k
index_gets [] k s e = absurd (none-some k e)
index_gets (x ∷ xs) k zero e = subst (λ b. slice_get (x ∷ xs) (if b then 0 else suc (index_in xs k)) ≡ Some k) (sym ((Decides-eqb x k).1 (same_Some x k e))) e
index_gets (x ∷ xs) k (suc s) e = by (nat_eq x k) (Decides-eqb x k).0 (index_gets xs k s e)
  where
    by : (b : Bool) → (b ≡ true → x ≡ k) → slice_get xs (index_in xs k) ≡ Some k → slice_get (x ∷ xs) (if b then 0 else suc (index_in xs k)) ≡ Some k
    by true tells rest = ap Some (tells refl)
    by false tells rest = rest

-- ---- the flow with the method in place of the call

module _ (p : Rows) (m : Meaning) (body call method : ℕ) where
  abbrev F : Flow State
  F = body_flow p m body

  abbrev G : Flow State
  G = body_flow p m method

  abbrev J : Flow Within
  J = joined_flow p m body call method

  abbrev is_called : State → Bool
  is_called a = is_call_at call (F.point a)

  abbrev is_left : State → Bool
  is_left b = is_exit b.moment method b.row

  called_point : (o : Option Point) → is_call_at call o ≡ true → (x : Point) × (o ≡ Some x)
  called_point None e = absurd (false≢true e)
  called_point (Some x) e = (x, refl)

  called_stands : (a : State) → is_called a ≡ true → IsPoint F a
  called_stands a e = let one = called_point (F.point a) e in record { point = one.0; stands = one.1 }

  quiet_call : (a : State) → (IsPoint F a → ⊥) → is_called a ≡ false
  quiet_call a none = ap (is_call_at call) (no_point F a none)

  left_stands : (b : State) → is_left b ≡ true → IsPoint G b
  left_stands b e = let l = exit_tells p m method b.moment b.row e in let s = exit_stands p m method b.moment b.row l.0 l.1 in record { point = record { row = method; kind = s.0 }; stands = s.1 }

  quiet_left : (b : State) → (IsPoint G b → ⊥) → is_left b ≡ false
  quiet_left b none = not_true (is_left b) (λ e. none (left_stands b e))

  start_stands : G.point G.start ≡ point method kind.Entry
  start_stands = entry_stands p m method

  -- ---- hops

  outer_hops : (a : State) → is_called a ≡ false → J.hops (outside a) ≡ each_hop outside (F.hops a)
  outer_hops a e = ap (λ b. if b then record { to = inside (at method 0 []) a; is_throw = false } ∷ [] else each_hop outside (F.hops a)) e

  call_hops : (a : State) → is_called a ≡ true → J.hops (outside a) ≡ record { to = inside G.start a; is_throw = false } ∷ []
  call_hops a e = ap (λ b. if b then record { to = inside (at method 0 []) a; is_throw = false } ∷ [] else each_hop outside (F.hops a)) e

  inner_hops : (b a : State) → is_left b ≡ false → J.hops (inside b a) ≡ each_hop (λ x. inside x a) (G.hops b)
  inner_hops b a e = ap (λ z. if z then returned b.moment (F.hops a) else each_hop (λ x. inside x a) (G.hops b)) e

  exit_hops : (b a : State) (t : Bool) → IsLeft p m method b.moment b.row t → J.hops (inside b a) ≡ each_hop outside (filter (λ h. same_way t h) (F.hops a))
  exit_hops b a t l = ap (λ z. if z then returned b.moment (F.hops a) else each_hop (λ x. inside x a) (G.hops b)) l.leaves
      ∙ ap (λ mo. returned mo (F.hops a)) l.left ∙ ap (λ u. each_hop outside (filter (λ h. same_way u h) (F.hops a))) l.thrown

  -- ---- what control comes to

  abbrev Stands : Within → Type 0
  Stands (outside a) = IsReached F a
  Stands (inside b a) = IsReached G b × IsReached F a × (is_called a ≡ true)

  stands_outside : (a : State) (y : Within) (z : State) → y ≡ outside z → IsReached F z → Stands y
  stands_outside a y z e r = subst Stands (sym e) r

  outer_next : (a : State) (y : Within) (t : Bool) (b : Bool) → is_called a ≡ b → IsReached F a → Contains (J.hops (outside a)) (record { to = y; is_throw = t }) → Stands y
  outer_next a y t true e r c = ⊎_elim (λ same. subst Stands (ap (λ z. z.to) same) (IsReached.start, r, e)) (λ more. absurd (none_in _ more)) (contains_out (record { to = inside G.start a; is_throw = false }) [] (record { to = y; is_throw = t }) (subst (λ xs. Contains xs (record { to = y; is_throw = t })) (call_hops a e) c))
  outer_next a y t false e r c = let o = each_out outside (F.hops a) y t (subst (λ xs. Contains xs (record { to = y; is_throw = t })) (outer_hops a e) c) in
      stands_outside a y o.to o.same (IsReached.on r (record { is_throw = t; hop = o.hop }))

  inner_next : (b a : State) (y : Within) (t : Bool) (z : Bool) → is_left b ≡ z → Stands (inside b a) → Contains (J.hops (inside b a)) (record { to = y; is_throw = t }) → Stands y
  inner_next b a y t false e s c = let o = each_out (λ x. inside x a) (G.hops b) y t (subst (λ xs. Contains xs (record { to = y; is_throw = t })) (inner_hops b a e) c) in
      subst Stands (sym o.same) (IsReached.on s.0 (record { is_throw = t; hop = o.hop }), s.1, s.2)
  inner_next b a y t true e s c = let l = exit_tells p m method b.moment b.row e in
      let o = each_out outside (filter (λ h. same_way l.0 h) (F.hops a)) y t (subst (λ xs. Contains xs (record { to = y; is_throw = t })) (exit_hops b a l.0 l.1) c) in
      stands_outside a y o.to o.same (IsReached.on s.1 (record { is_throw = t; hop = (filter_out (λ h. same_way l.0 h) (F.hops a) _ o.hop).0 }))

  next_stands : (x y : Within) → Goes J x y → Stands x → Stands y
  next_stands (outside a) y g r = outer_next a y g.is_throw (is_called a) refl r g.hop
  next_stands (inside b a) y g s = inner_next b a y g.is_throw (is_left b) refl s g.hop

  pub stands : (x : Within) → IsReached J x → Stands x
  stands x IsReached.start = IsReached.start
  stands y (IsReached.on {a = x} r g) = next_stands x y g (stands x r)

  -- control comes into the method by its entry
  abbrev pub Entered : Within → Type 0
  Entered (outside a) = Unit {0}
  Entered (inside b a) = IsReached J (inside G.start a)

  outer_entered : (a : State) (y : Within) (t : Bool) (b : Bool) → is_called a ≡ b → IsReached J (outside a) → Contains (J.hops (outside a)) (record { to = y; is_throw = t }) → Entered y
  outer_entered a y t true e r c = ⊎_elim (λ same. subst Entered (ap (λ z. z.to) same) (subst (λ z. IsReached J z) (sym (ap (λ z. z.to) same)) (IsReached.on r (record { is_throw = t; hop = c })))) (λ more. absurd (none_in _ more))
      (contains_out (record { to = inside G.start a; is_throw = false }) [] (record { to = y; is_throw = t }) (subst (λ xs. Contains xs (record { to = y; is_throw = t })) (call_hops a e) c))
  outer_entered a y t false e r c = let o = each_out outside (F.hops a) y t (subst (λ xs. Contains xs (record { to = y; is_throw = t })) (outer_hops a e) c) in subst Entered (sym o.same) tt

  inner_entered : (b a : State) (y : Within) (t : Bool) (z : Bool) → is_left b ≡ z → IsReached J (inside G.start a) → Contains (J.hops (inside b a)) (record { to = y; is_throw = t }) → Entered y
  inner_entered b a y t false e s c = let o = each_out (λ x. inside x a) (G.hops b) y t (subst (λ xs. Contains xs (record { to = y; is_throw = t })) (inner_hops b a e) c) in subst Entered (sym o.same) s
  inner_entered b a y t true e s c = let l = exit_tells p m method b.moment b.row e in
      let o = each_out outside (filter (λ h. same_way l.0 h) (F.hops a)) y t (subst (λ xs. Contains xs (record { to = y; is_throw = t })) (exit_hops b a l.0 l.1) c) in subst Entered (sym o.same) tt

  next_entered : (x y : Within) → IsReached J x → Goes J x y → Entered x → Entered y
  next_entered (outside a) y r g e = outer_entered a y g.is_throw (is_called a) refl r g.hop
  next_entered (inside b a) y r g e = inner_entered b a y g.is_throw (is_left b) refl e g.hop

  pub entered : (x : Within) → IsReached J x → Entered x
  entered x IsReached.start = tt
  entered y (IsReached.on {a = x} r g) = next_entered x y r g (entered x r)

  -- ---- on to the next point

  point_in : (a : State) → IsPoint J (outside a) → IsPoint F a
  point_in a x = record { point = x.point; stands = x.stands }

  point_out : (a : State) → IsPoint F a → IsPoint J (outside a)
  point_out a x = record { point = x.point; stands = x.stands }

  inner_in : (b a : State) → IsPoint J (inside b a) → IsPoint G b
  inner_in b a x = record { point = x.point; stands = x.stands }

  inner_out : (b a : State) → IsPoint G b → IsPoint J (inside b a)
  inner_out b a x = record { point = x.point; stands = x.stands }

  outer_goes : (a b : State) → is_called a ≡ false → Goes F a b → Goes J (outside a) (outside b)
  outer_goes a b e g = record { is_throw = g.is_throw; hop = subst (λ xs. Contains xs (record { to = outside b; is_throw = g.is_throw })) (sym (outer_hops a e)) (each_into outside (F.hops a) b g.is_throw g.hop) }

  pub inner_goes : (b c a : State) → is_left b ≡ false → Goes G b c → Goes J (inside b a) (inside c a)
  inner_goes b c a e g = record { is_throw = g.is_throw; hop = subst (λ xs. Contains xs (record { to = inside c a; is_throw = g.is_throw })) (sym (inner_hops b a e)) (each_into (λ x. inside x a) (G.hops b) c g.is_throw g.hop) }

  outer_onward : (a b : State) → Onward F a b → Onward J (outside a) (outside b)
  outer_onward a b (Onward.here x) = Onward.here (point_out a x)
  outer_onward a b (Onward.on {r = r} none g more) = Onward.on (λ x. none (point_in a x)) (outer_goes a r (quiet_call a none) g) (outer_onward r b more)

  inner_onward : (b c a : State) → Onward G b c → Onward J (inside b a) (inside c a)
  inner_onward b c a (Onward.here x) = Onward.here (inner_out b a x)
  inner_onward b c a (Onward.on {r = r} none g more) = Onward.on (λ x. none (inner_in b a x)) (inner_goes b r a (quiet_left b none) g) (inner_onward r c a more)

  -- where control comes to from outside the method
  record EndsOutside (a : State) (y : Within) : Type 0 where
    end : State
    same : y ≡ outside end
    onward : Onward F a end

  onward_outside : (x y : Within) → Onward J x y → (a : State) → x ≡ outside a → EndsOutside a y
  onward_outside x y (Onward.here at_x) a e = record { end = a; same = e; onward = Onward.here (point_in a (subst (IsPoint J) e at_x)) }
  onward_outside x y (Onward.on {r = r} none g more) a e =
      let quiet : IsPoint F a → ⊥ = λ z. none (subst (IsPoint J) (sym e) (point_out a z)) in
      let o = each_out outside (F.hops a) r g.is_throw (subst (λ xs. Contains xs (record { to = r; is_throw = g.is_throw })) (ap (λ z. J.hops z) e ∙ outer_hops a (quiet_call a quiet)) g.hop) in
      let rest = onward_outside r y more o.to o.same in
      record { end = rest.end; same = rest.same; onward = Onward.on quiet (record { is_throw = g.is_throw; hop = o.hop }) rest.onward }

  record EndsInside (b a : State) (y : Within) : Type 0 where
    end : State
    same : y ≡ inside end a
    onward : Onward G b end

  onward_inside : (a : State) (x y : Within) → Onward J x y → (b : State) → x ≡ inside b a → EndsInside b a y
  onward_inside a x y (Onward.here at_x) b e = record { end = b; same = e; onward = Onward.here (inner_in b a (subst (IsPoint J) e at_x)) }
  onward_inside a x y (Onward.on {r = r} none g more) b e =
      let quiet : IsPoint G b → ⊥ = λ z. none (subst (IsPoint J) (sym e) (inner_out b a z)) in
      let o = each_out (λ z. inside z a) (G.hops b) r g.is_throw (subst (λ xs. Contains xs (record { to = r; is_throw = g.is_throw })) (ap (λ z. J.hops z) e ∙ inner_hops b a (quiet_left b quiet)) g.hop) in
      let rest = onward_inside a r y more o.to o.same in
      record { end = rest.end; same = rest.same; onward = Onward.on quiet (record { is_throw = g.is_throw; hop = o.hop }) rest.onward }

  -- ---- steps

  outer_steps : (a y : State) (t : Bool) → is_called a ≡ false → Steps F a y t → Steps J (outside a) (outside y) t
  outer_steps a y t e s = record {
    from = point_out a s.from;
    next = outside s.next;
    hop = subst (λ xs. Contains xs (record { to = outside s.next; is_throw = t })) (sym (outer_hops a e)) (each_into outside (F.hops a) s.next t s.hop);
    onward = outer_onward s.next y s.onward;
  }

  call_steps : (a : State) → is_called a ≡ true → Steps J (outside a) (inside G.start a) false
  call_steps a e = record {
    from = point_out a (called_stands a e);
    next = inside G.start a;
    hop = subst (λ xs. Contains xs (record { to = inside G.start a; is_throw = false })) (sym (call_hops a e)) (contains_first (record { to = inside G.start a; is_throw = false }) []);
    onward = Onward.here (record { point = record { row = method; kind = kind.Entry }; stands = start_stands });
  }

  inner_steps : (b c a : State) (t : Bool) → is_left b ≡ false → Steps G b c t → Steps J (inside b a) (inside c a) t
  inner_steps b c a t e s = record {
    from = inner_out b a s.from;
    next = inside s.next a;
    hop = subst (λ xs. Contains xs (record { to = inside s.next a; is_throw = t })) (sym (inner_hops b a e)) (each_into (λ x. inside x a) (G.hops b) s.next t s.hop);
    onward = inner_onward s.next c a s.onward;
  }

  exit_steps : (b a y : State) (t : Bool) → IsLeft p m method b.moment b.row t → Steps F a y t → Steps J (inside b a) (outside y) t
  exit_steps b a y t l s = record {
    from = inner_out b a (left_stands b l.leaves);
    next = outside s.next;
    hop = subst (λ xs. Contains xs (record { to = outside s.next; is_throw = t })) (sym (exit_hops b a t l)) (each_into outside (filter (λ h. same_way t h) (F.hops a)) s.next t (filter_into (λ h. same_way t h) (F.hops a) (record { to = s.next; is_throw = t }) (way_into t s.next) s.hop));
    onward = outer_onward s.next y s.onward;
  }

  -- a step from outside that does not leave the call, and one that leaves the method
  record StepsOutside (a : State) (y : Within) (t : Bool) : Type 0 where
    end : State
    same : y ≡ outside end
    steps : Steps F a end t

  steps_outside : (a : State) (y : Within) (t : Bool) → is_called a ≡ false → Steps J (outside a) y t → StepsOutside a y t
  steps_outside a y t e s =
      let o = each_out outside (F.hops a) s.next t (subst (λ xs. Contains xs (record { to = s.next; is_throw = t })) (outer_hops a e) s.hop) in
      let rest = onward_outside s.next y s.onward o.to o.same in
      record { end = rest.end; same = rest.same; steps = record { from = point_in a s.from; next = o.to; hop = o.hop; onward = rest.onward } }

  steps_back : (b a : State) (y : Within) (t u : Bool) → IsLeft p m method b.moment b.row u → IsPoint F a → Steps J (inside b a) y t → StepsOutside a y t × (t ≡ u)
  steps_back b a y t u l from s =
      let o = each_out outside (filter (λ h. same_way u h) (F.hops a)) s.next t (subst (λ xs. Contains xs (record { to = s.next; is_throw = t })) (exit_hops b a u l) s.hop) in
      let f = filter_out (λ h. same_way u h) (F.hops a) (record { to = o.to; is_throw = t }) o.hop in
      let rest = onward_outside s.next y s.onward o.to o.same in
      (record { end = rest.end; same = rest.same; steps = record { from = from; next = o.to; hop = f.0; onward = rest.onward } }, way_out u t o.to f.1)

  from_point : {A : Type 0} (f : Flow A) (a b : A) → IsPoint f a → Onward f a b → a ≡ b
  from_point f a b x (Onward.here stands_at) = refl
  from_point f a b x (Onward.on apart g more) = absurd (apart x)

  steps_in : (a : State) (y : Within) (t : Bool) → is_called a ≡ true → Steps J (outside a) y t → (y ≡ inside G.start a) × (t ≡ false)
  steps_in a y t e s = ⊎_elim
      (λ same. let next : inside G.start a ≡ s.next = ap (λ z. z.to) same in
      (sym (next ∙ from_point J s.next y (subst (IsPoint J) next (record { point = record { row = method; kind = kind.Entry }; stands = start_stands })) s.onward), sym (ap (λ z. z.is_throw) same)))
      (λ more. absurd (none_in _ more))
      (contains_out (record { to = inside G.start a; is_throw = false }) [] (record { to = s.next; is_throw = t }) (subst (λ xs. Contains xs (record { to = s.next; is_throw = t })) (call_hops a e) s.hop))

  record StepsInside (b a : State) (y : Within) (t : Bool) : Type 0 where
    end : State
    same : y ≡ inside end a
    steps : Steps G b end t

  steps_inside : (b a : State) (y : Within) (t : Bool) → is_left b ≡ false → Steps J (inside b a) y t → StepsInside b a y t
  steps_inside b a y t e s =
      let o = each_out (λ x. inside x a) (G.hops b) s.next t (subst (λ xs. Contains xs (record { to = s.next; is_throw = t })) (inner_hops b a e) s.hop) in
      let rest = onward_inside a s.next y s.onward o.to o.same in
      record { end = rest.end; same = rest.same; steps = record { from = inner_in b a s.from; next = o.to; hop = o.hop; onward = rest.onward } }

  -- ---- numbers

  module _ (other : body ≡ method → ⊥) (points more : List Point) (outer inner : StepList) (before_graph : IsGraph F body points outer) (method_graph : IsGraph G method more inner) where
    abbrev calls : List ℕ
    calls = calls_in points call

    abbrev base : ℕ → ℕ
    base s = base_at (length points) (length more) s

    abbrev turn : State → ℕ
    turn a = index_in calls (before_graph.number a)

    abbrev number : Within → ℕ
    number (outside a) = before_graph.number a
    number (inside b a) = base (turn a) + method_graph.number b

    outer_few : (a : State) → IsReached F a → IsPoint F a → before_graph.number a < length points
    outer_few a r x = get_inside points (before_graph.number a) x.point (before_graph.numbering.stands a x.point r x.stands)

    inner_few : (b : State) → IsReached G b → IsPoint G b → method_graph.number b < length more
    inner_few b r x = get_inside more (method_graph.number b) x.point (method_graph.numbering.stands b x.point r x.stands)

    called_number : (a : State) → IsReached F a → IsPoint F a → is_call_at call (slice_get points (before_graph.number a)) ≡ is_called a
    called_number a r x = ap (is_call_at call) (before_graph.numbering.stands a x.point r x.stands ∙ sym x.stands)

    called_turn : (a : State) → IsReached F a → is_called a ≡ true → slice_get calls (turn a) ≡ Some (before_graph.number a)
    called_turn a r e = let x = called_stands a e in let found = call_found points call (length points) (before_graph.number a) (outer_few a r x) (called_number a r x ∙ e) in
        index_gets calls (before_graph.number a) found.0 found.1

    start_number : method_graph.number G.start ≡ 0
    start_number = method_graph.numbering.own G.start 0 (record { row = method; kind = kind.Entry }) IsReached.start start_stands refl refl

    exit_point : (t : Bool) → (k : PointKind) × (slice_get more (exit_number t) ≡ point method k) × (own_number k ≡ Some (exit_number t))
    exit_point true = (kind.Thrown, method_graph.numbering.thrown, refl)
    exit_point false = (kind.Exit, method_graph.numbering.exit, refl)

    same_outer : (a b : State) → IsReached F a → IsPoint F a → IsReached F b → IsPoint F b → before_graph.number a ≡ before_graph.number b → a ≡ b
    same_outer a b r x s y e = before_graph.numbering.apart a b x.point y.point r x.stands s y.stands e

    same_inner : (a b : State) → IsReached G a → IsPoint G a → IsReached G b → IsPoint G b → method_graph.number a ≡ method_graph.number b → a ≡ b
    same_inner a b r x s y e = method_graph.numbering.apart a b x.point y.point r x.stands s y.stands e

    abbrev whole : List Point
    whole = points ++ copies (length calls) more

    front_point : (k : ℕ) (x : Point) → slice_get points k ≡ Some x → slice_get whole k ≡ Some x
    front_point k x e = front_get points (copies (length calls) more) k (get_inside points k x e) ∙ e

    own_number_is : (x : Within) (k : ℕ) (y : Point) → IsReached J x → J.point x ≡ Some y → y.row ≡ body → own_number y.kind ≡ Some k → number x ≡ k
    own_number_is (outside a) k y r e row is = before_graph.numbering.own a k y (stands (outside a) r) e row is
    own_number_is (inside b a) k y r e row is = absurd (other (sym row ∙ own_row p m method b.moment b.row y.row y.kind k is e))

    stands_in : (x : Within) (y : Point) → IsReached J x → J.point x ≡ Some y → slice_get whole (number x) ≡ Some y
    stands_in (outside a) y r e = front_point (before_graph.number a) y (before_graph.numbering.stands a y (stands (outside a) r) e)
    stands_in (inside b a) y r e = let s = stands (inside b a) r in
        copy_get points more (length calls) (turn a) (method_graph.number b) (get_inside calls (turn a) (before_graph.number a) (called_turn a s.1 s.2)) (inner_few b s.0 (record { point = y; stands = e }))
        ∙ method_graph.numbering.stands b y s.0 e

    past : (a b c : State) → IsReached F a → IsPoint F a → before_graph.number a ≡ base (turn c) + method_graph.number b → ⊥
    past a b c r x e = let lt = outer_few a r x in let le = base_least (length points) (length more) (turn c) in absurd (omega (arith, lt, le, e))

    numbers_apart : (x y : Within) (v w : Point) → IsReached J x → J.point x ≡ Some v → IsReached J y → J.point y ≡ Some w → number x ≡ number y → x ≡ y
    numbers_apart (outside a) (outside b) v w r e s f same = ap outside (before_graph.numbering.apart a b v w (stands (outside a) r) e (stands (outside b) s) f same)
    numbers_apart (outside a) (inside d c) v w r e s f same = absurd (past a d c (stands (outside a) r) (record { point = v; stands = e }) same)
    numbers_apart (inside b a) (outside c) v w r e s f same = absurd (past c b a (stands (outside c) s) (record { point = w; stands = f }) (sym same))
    numbers_apart (inside b a) (inside d c) v w r e s f same = let first = stands (inside b a) r in let second = stands (inside d c) s in
        let both = base_apart (length points) (length more) (turn a) (turn c) (method_graph.number b) (method_graph.number d) (inner_few b first.0 (record { point = v; stands = e })) (inner_few d second.0 (record { point = w; stands = f })) same in
        let callers : before_graph.number a ≡ before_graph.number c = same_Some (before_graph.number a) (before_graph.number c) (sym (called_turn a first.1 first.2) ∙ ap (slice_get calls) both.0 ∙ called_turn c second.1 second.2) in
        ap (λ z. inside z a) (method_graph.numbering.apart b d v w first.0 e second.0 f both.1)
        ∙ ap (inside d) (same_outer a c first.1 (called_stands a first.2) second.1 (called_stands c second.2) callers)

    -- ---- each step is one of the list

    abbrev IsStep : ℕ → ℕ → Bool → Type 0
    IsStep i j t = IsJoinedStep points call (length more) outer inner i j t

    outer_found : (a : State) (y : Within) (t : Bool) → IsReached F a → StepsOutside a y t → Contains outer (before_graph.number a, number y, t)
    outer_found a y t r s = subst (λ k. Contains outer (before_graph.number a, k, t)) (sym (ap number s.same)) (before_graph.every (before_graph.number a) (before_graph.number s.end) t (record { from = a; to = s.end; reached = r; numbers = (refl, refl); steps = s.steps }))

    every_outside : (a : State) (y : Within) (t b : Bool) → is_called a ≡ b → IsReached F a → Steps J (outside a) y t → IsStep (before_graph.number a) (number y) t
    every_outside a y t true e r s = let in_method = steps_in a y t e s in
        IsJoinedStep.enters (turn a) (called_turn a r e) (ap number in_method.0 ∙ ap (λ n. base (turn a) + n) start_number ∙ plus_zero (base (turn a))) in_method.1
      where
        plus_zero : (n : ℕ) → n + 0 ≡ n
        plus_zero n = omega arith
    every_outside a y t false e r s = IsJoinedStep.around (outer_found a y t r (steps_outside a y t e s)) (called_number a r (point_in a s.from) ∙ e)

    every_inside : (b a : State) (y : Within) (t z : Bool) → is_left b ≡ z → IsReached G b → IsReached F a → is_called a ≡ true → Steps J (inside b a) y t → IsStep (base (turn a) + method_graph.number b) (number y) t
    every_inside b a y t false e rb ra called s = let o = steps_inside b a y t e s in
        IsJoinedStep.within (turn a) (before_graph.number a) (method_graph.number b) (method_graph.number o.end) (called_turn a ra called)
        (method_graph.every (method_graph.number b) (method_graph.number o.end) t (record { from = b; to = o.end; reached = rb; numbers = (refl, refl); steps = o.steps })) refl (ap number o.same)
    every_inside b a y t true e rb ra called s = let l = exit_tells p m method b.moment b.row e in let at_exit = exit_stands p m method b.moment b.row l.0 l.1 in
        let back = steps_back b a y t l.0 l.1 (called_stands a called) s in
        let is : method_graph.number b ≡ exit_number l.0 = method_graph.numbering.own b (exit_number l.0) (record { row = method; kind = at_exit.0 }) rb at_exit.1 refl at_exit.2 in
        IsJoinedStep.leaves (turn a) (before_graph.number a) (called_turn a ra called) (outer_found a y t ra back.0) (ap (λ n. base (turn a) + n) (is ∙ ap exit_number (sym back.1)))

    every_step : (x y : Within) (t : Bool) → IsReached J x → Steps J x y t → IsStep (number x) (number y) t
    every_step (outside a) y t r s = every_outside a y t (is_called a) refl (stands (outside a) r) s
    every_step (inside b a) y t r s = let k = stands (inside b a) r in every_inside b a y t (is_left b) refl k.0 k.1 k.2 s

    -- ---- each of the list is a step

    record Led (x : Within) (j : ℕ) (t : Bool) : Type 0 where
      to : Within
      numbered : number to ≡ j
      steps : Steps J x to t

    outer_step : (a : State) (k j : ℕ) (t : Bool) → IsReached F a → IsPoint F a → before_graph.number a ≡ k → Contains outer (k, j, t) → (y : State) × (before_graph.number y ≡ j) × Steps F a y t
    outer_step a k j t r x e c = let s = before_graph.only k j t c in let same = same_outer s.from a s.reached s.steps.from r x (s.numbers.0 ∙ sym e) in (s.to, s.numbers.1, subst (λ z. Steps F z s.to t) same s.steps)

    only_outside : (a : State) (i j : ℕ) (t : Bool) → IsReached F a → IsPoint F a → before_graph.number a ≡ i → IsStep i j t → Led (outside a) j t
    only_outside a i j t r x e (IsJoinedStep.around c out) = let s = outer_step a i j t r x e c in
        record { to = outside s.0; numbered = s.1; steps = outer_steps a s.0 t (sym (called_number a r x) ∙ ap (λ k. is_call_at call (slice_get points k)) e ∙ out) s.2 }
    only_outside a i j t r x e (IsJoinedStep.enters s stands_at to is) =
        let called : is_called a ≡ true = sym (called_number a r x) ∙ ap (λ k. is_call_at call (slice_get points k)) e ∙ (call_below points call (length points) s i stands_at).acts in
        let same : turn a ≡ s = calls_apart points call (length points) (turn a) s i (called_turn a r called ∙ ap Some e) stands_at in
        let bases : base (turn a) ≡ base s = ap base same in let zero_is = start_number in let numbered : base (turn a) + method_graph.number G.start ≡ j = omega (arith, bases, zero_is, to) in
        record { to = inside G.start a; numbered = numbered; steps = subst (λ u. Steps J (outside a) (inside G.start a) u) (sym is) (call_steps a called) }
    only_outside a i j t r x e (IsJoinedStep.within s k from to stands_at c starts ends) = let lt = outer_few a r x in let le = base_least (length points) (length more) s in absurd (omega (arith, lt, le, e, starts))
    only_outside a i j t r x e (IsJoinedStep.leaves s k stands_at c starts) = let lt = outer_few a r x in let le = base_least (length points) (length more) s in absurd (omega (arith, lt, le, e, starts))

    only_inside : (b a : State) (i j : ℕ) (t : Bool) → IsReached G b → IsPoint G b → IsReached F a → is_called a ≡ true → base (turn a) + method_graph.number b ≡ i → IsStep i j t → Led (inside b a) j t
    only_inside b a i j t rb x ra called e (IsJoinedStep.around c out) = let lt = (steps_within F body points outer before_graph i j t c).0 in let le = base_least (length points) (length more) (turn a) in absurd (omega (arith, lt, le, e))
    only_inside b a i j t rb x ra called e (IsJoinedStep.enters s stands_at to is) = let lt = (call_below points call (length points) s i stands_at).few in let le = base_least (length points) (length more) (turn a) in absurd (omega (arith, lt, le, e))
    only_inside b a i j t rb x ra called e (IsJoinedStep.within s k from to stands_at c starts ends) =
        let both = base_apart (length points) (length more) (turn a) s (method_graph.number b) from (inner_few b rb x) (steps_within G method more inner method_graph from to t c).0 (e ∙ starts) in
        let step = method_graph.only from to t c in
        let same = same_inner step.from b step.reached step.steps.from rb x (step.numbers.0 ∙ sym both.1) in
        let steps : Steps G b step.to t = subst (λ z. Steps G z step.to t) same step.steps in
        let bases : base (turn a) ≡ base s = ap base both.0 in let ends_at = step.numbers.1 in let is : base (turn a) + method_graph.number step.to ≡ j = omega (arith, bases, ends_at, ends) in
        record { to = inside step.to a; numbered = is; steps = inner_steps b step.to a t (not_true (is_left b) (λ l. exit_ends p m method b steps.next t l steps.hop)) steps }
    only_inside b a i j t rb x ra called e (IsJoinedStep.leaves s k stands_at c starts) =
        let exit = exit_point t in
        let both = base_apart (length points) (length more) (turn a) s (method_graph.number b) (exit_number t) (inner_few b rb x) (get_inside more (exit_number t) _ exit.1) (e ∙ starts) in
        let caller : before_graph.number a ≡ k = same_Some (before_graph.number a) k (sym (called_turn a ra called) ∙ ap (slice_get calls) both.0 ∙ stands_at) in
        let step = outer_step a k j t ra (called_stands a called) caller c in
        let is : x.point ≡ record { row = method; kind = exit.0 } = same_Some x.point (record { row = method; kind = exit.0 }) (sym (method_graph.numbering.stands b x.point rb x.stands) ∙ ap (slice_get more) both.1 ∙ exit.1) in
        record { to = outside step.0; numbered = step.1; steps = exit_steps b a step.0 t (exit_at p m method b.moment b.row x.point.row x.point.kind t (ap (λ z. own_number z.kind) is ∙ exit.2) x.stands) step.2 }

    only_step : (x : Within) (i j : ℕ) (t : Bool) → IsReached J x → IsPoint J x → number x ≡ i → IsStep i j t → Led x j t
    only_step (outside a) i j t r x e s = only_outside a i j t (stands (outside a) r) (point_in a x) e s
    only_step (inside b a) i j t r x e s = let k = stands (inside b a) r in only_inside b a i j t k.0 (inner_in b a x) k.1 k.2 e s

    pub loose_graph : (steps : StepList) → AreJoinedSteps points call (length more) outer inner steps → IsLooseGraph J body whole steps
    loose_graph steps joined = record {
      number = number;
      begins = record { point = record { row = body; kind = kind.Entry }; stands = entry_stands p m body };
      first = before_graph.numbering.own F.start 0 (record { row = body; kind = kind.Entry }) IsReached.start (entry_stands p m body) refl refl;
      entry = front_point 0 _ before_graph.numbering.entry;
      exit = front_point 1 _ before_graph.numbering.exit;
      thrown = front_point 2 _ before_graph.numbering.thrown;
      own = own_number_is;
      stands = stands_in;
      apart = numbers_apart;
      only = λ i j t c x r y e. let l = only_step x i j t r y e ((joined i j t).0 c) in (l.to, l.numbered, l.steps);
      every = λ x y t r s. (joined (number x) (number y) t).1 (every_step x y t r s);
    }
