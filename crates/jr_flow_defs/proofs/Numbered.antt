-- Paths of a flow and paths over the numbers of its points.
use Rattle.std.proofs.Common.{◌≡◌, ◌⊎◌, refl, sym, ◌∙◌, subst, inl, inr, ⊎_elim, ℕ, Bool, true, List, Option, Some, None}
use Rattle.std.specs.List.{Contains}
use Rattle.std.proofs.lemmas.Option.{none-some}
use Rattle.jr_flow_defs.specs.declared.point.Point.{Point}
use Rattle.jr_flow_defs.specs.Paths.{Flow, Goes, IsReached, Path, IsPoint, Onward, Steps}
use Rattle.jr_flow_defs.specs.Edges.{HasStep, IsGraph}
use Rattle.jr_flow_defs.specs.Graphs.{StepList, StepPath, StopsAt}

module _ {A : Type 0} (f : Flow A) where
  point_or_not : (a : A) (o : Option Point) → f.point a ≡ o → IsPoint f a ⊎ (IsPoint f a → ⊥)
  point_or_not a (Some x) e = inl (record { point = x; stands = e })
  point_or_not a None e = inr (λ at. none-some at.point (sym e ∙ at.stands))

  module _ (Stops : A → Type 0) (points_stop : (a : A) → Stops a → IsPoint f a) where
    pub reached_along : (a b : A) → IsReached f a → Path f Stops a b → IsReached f b
    reached_along a b r (Path.hop g) = IsReached.on r g
    reached_along a b r (Path.on {r = c} path apart g) = IsReached.on (reached_along a c r path) g

    joined : (a r b : A) → Path f Stops a r → (Stops r → ⊥) → Path f Stops r b → Path f Stops a b
    joined a r b first apart (Path.hop g) = Path.on first apart g
    joined a r b first apart (Path.on {r = c} second other g) = Path.on (joined a r c first apart second) other g

    onward_path : (a x b : A) → Path f Stops a x → Onward f x b → Path f Stops a b
    onward_path a x b path (Onward.here at) = path
    onward_path a x b path (Onward.on {r = r} apart g more) = onward_path a r b (Path.on path (λ s. apart (points_stop x s)) g) more

    pub step_path : (a b : A) (t : Bool) → Steps f a b t → Path f Stops a b
    step_path a b t s = onward_path a s.next b (Path.hop (record { is_throw = t; hop = s.hop })) s.onward

  -- hops over places that are no points
  data Silent (a : A) : A → Type 0 where
    here : Silent a a
    on : {r b : A} → Silent a r → (IsPoint f r → ⊥) → Goes f r b → Silent a b

  silent_onward : (a r b : A) → Silent a r → Onward f r b → Onward f a b
  silent_onward a r b Silent.here more = more
  silent_onward a b c (Silent.on {r = r} quiet apart g) more = silent_onward a r c quiet (Onward.on apart g more)

  pub onward_point : (a b : A) → Onward f a b → IsPoint f b
  onward_point a b (Onward.here at) = at
  onward_point a b (Onward.on {r = r} apart g more) = onward_point r b more

module _ {A : Type 0} (f : Flow A) (body : ℕ) (points : List Point) (steps : StepList) (g : IsGraph f body points steps) (stops : A → Bool) (points_stop : (a : A) → stops a ≡ true → IsPoint f a) where
  abbrev Stops : A → Type 0
  Stops x = stops x ≡ true

  abbrev Numbered : ℕ → Type 0
  Numbered = StopsAt f g.number stops

  same_place : (a b : A) → IsReached f a → IsPoint f a → IsReached f b → IsPoint f b → g.number a ≡ g.number b → a ≡ b
  same_place a b r x s y e = g.numbering.apart a b x.point y.point r x.stands s y.stands e

  -- the last point on the way from a to b: a itself, or one to which steps lead and that does not stop
  record Trail (a b : A) : Type 0 where
    last : A
    reached : IsReached f last
    at : IsPoint f last
    way : (last ≡ a) ⊎ (StepPath steps Numbered (g.number a) (g.number last) × (Stops last → ⊥))
    next : A
    is_throw : Bool
    hop : Contains (f.hops last) (record { to = next; is_throw = is_throw })
    quiet : Silent f next b

  stopped : (a : A) → IsReached f a → IsPoint f a → (Stops a → ⊥) → Numbered (g.number a) → ⊥
  stopped a r x apart s = apart (subst Stops (same_place s.at a s.reached s.point r x s.numbered) s.stop)

  -- where the end of the way is a point, steps lead there
  arrived : (a b : A) → IsReached f a → IsPoint f a → IsPoint f b → Trail a b → StepPath steps Numbered (g.number a) (g.number b)
  arrived a b r x y t =
      let s : HasStep f g.number (g.number t.last) (g.number b) t.is_throw = record {
        from = t.last;
        to = b;
        reached = t.reached;
        numbers = (refl, refl);
        steps = record { from = t.at; next = t.next; hop = t.hop; onward = silent_onward f t.next b b t.quiet (Onward.here y) };
      } in
      let c = g.every (g.number t.last) (g.number b) t.is_throw s in
      ⊎_elim (λ e. StepPath.step t.is_throw (subst (λ z. Contains steps (g.number z, g.number b, t.is_throw)) e c))
      (λ w. StepPath.on t.is_throw w.0 (stopped t.last t.reached t.at w.1) c) t.way

  trail : (a b : A) → IsReached f a → IsPoint f a → Path f Stops a b → Trail a b
  trail a b r x (Path.hop h) = record { last = a; reached = r; at = x; way = inl refl; next = b; is_throw = h.is_throw; hop = h.hop; quiet = Silent.here }
  trail a b r x (Path.on {r = c} path apart h) = let t = trail a c r x path in
      ⊎_elim (λ y. record { last = c; reached = reached_along f Stops points_stop a c r path; at = y; way = inr (arrived a c r x y t, apart); next = b; is_throw = h.is_throw; hop = h.hop; quiet = Silent.here })
      (λ none. record { last = t.last; reached = t.reached; at = t.at; way = t.way; next = t.next; is_throw = t.is_throw; hop = t.hop; quiet = Silent.on t.quiet none h })
      (point_or_not f c (f.point c) refl)

  pub by_numbers : (a b : A) → IsReached f a → IsPoint f a → IsPoint f b → Path f Stops a b → StepPath steps Numbered (g.number a) (g.number b)
  by_numbers a b r x y path = arrived a b r x y (trail a b r x path)

  -- a place of the number to which a path leads
  record Place (a : A) (k : ℕ) : Type 0 where
    to : A
    reached : IsReached f to
    at : IsPoint f to
    numbered : g.number to ≡ k
    path : Path f Stops a to

  one_step : (a : A) (i j : ℕ) (t : Bool) → IsReached f a → IsPoint f a → g.number a ≡ i → Contains steps (i, j, t) → Place a j
  one_step a i j t r x e c =
      let s = g.only i j t c in
      let same = same_place s.from a s.reached s.steps.from r x (s.numbers.0 ∙ sym e) in
      let path : Path f Stops a s.to = subst (λ z. Path f Stops z s.to) same (step_path f Stops points_stop s.from s.to t s.steps) in
      record { to = s.to; reached = reached_along f Stops points_stop a s.to r path; at = onward_point f s.steps.next s.to s.steps.onward; numbered = s.numbers.1; path = path }

  placed : (a : A) (k : ℕ) → IsReached f a → IsPoint f a → StepPath steps Numbered (g.number a) k → Place a k
  placed a k r x (StepPath.step t c) = one_step a (g.number a) k t r x refl c
  placed a k r x (StepPath.on {k = i} t path apart c) =
      let p = placed a i r x path in
      let q = one_step p.to i k t p.reached p.at p.numbered c in
      record {
        to = q.to;
        reached = q.reached;
        at = q.at;
        numbered = q.numbered;
        path = joined f Stops points_stop a p.to q.to p.path (λ s. apart (record { at = p.to; reached = p.reached; point = p.at; numbered = p.numbered; stop = s })) q.path;
      }

  pub by_places : (a b : A) → IsReached f a → IsPoint f a → IsReached f b → IsPoint f b → StepPath steps Numbered (g.number a) (g.number b) → Path f Stops a b
  by_places a b r x s y path = let p = placed a (g.number b) r x path in
      subst (λ z. Path f Stops a z) (same_place p.to b p.reached p.at s y p.numbered) p.path
