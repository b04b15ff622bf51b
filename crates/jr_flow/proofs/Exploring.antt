-- What was explored of a flow is its graph.
use Rattle.std.proofs.Common.{◌≡◌, ◌⊎◌, inl, inr, add-one, refl, sym, ◌∙◌, subst, ap, ⊎_elim, arith, ℕ, zero, suc, ◌+◌, ◌<◌, ◌≤◌, Bool, true, false, if◌then◌else◌, List, [], ◌∷◌, ◌++◌, length, Option, Some, None, option_and_then, option_map, slice_get, Decides}
use Rattle.std.specs.List.{Contains}
use Rattle.std.proofs.lemmas.Bool.{false≢true}
use Rattle.std.proofs.lemmas.Option.{none-some}
use Rattle.std.proofs.lemmas.List.Elements.{Contains-append_left, Contains-append_right, Contains-append_cases, Contains-push, Contains-push_cases}
use Rattle.jr_flow_defs.specs.declared.point.Point.{Point}
use Rattle.jr_flow_defs.specs.States.{Hop}
use Rattle.jr_flow_defs.specs.Paths.{Flow, Goes, IsReached, IsPoint, Onward, Steps}
use Rattle.jr_flow_defs.specs.Edges.{IsNumbering, HasStep, IsGraph}
use Rattle.jr_flow_defs.specs.Graphs.{StepList}
use Rattle.jr_flow.specs.Explored.{IsHopTo, AreHops, IsExplored, by_number, ArePoints, HasNumberedStep, AreSteps}

-- ---- lists

pub out : {A : Type 0} (y : A) (ys : List A) (x : A) → Contains (y ∷ ys) x → (y ≡ x) ⊎ Contains ys x
out y ys x h = ⊎_elim (λ one. ⊎_elim (λ none. absurd (omega (arith, none.1))) (λ e. inl e) (Contains-push_cases [] y x one)) (λ more. inr more) (Contains-append_cases (y ∷ []) ys x h)

pub here : {A : Type 0} (y : A) (ys : List A) → Contains (y ∷ ys) y
here y ys = Contains-append_left (y ∷ []) ys y (Contains-push [] y)

behind : {A : Type 0} (y : A) (ys : List A) (x : A) → Contains ys x → Contains (y ∷ ys) x
behind y ys x h = Contains-append_right (y ∷ []) ys x h

-- ---- hops

record Into {A : Type 0} (places : List A) (ks : List (Hop ℕ)) (h : Hop A) : Type 0 where
  hop : Hop ℕ
  among : Contains ks hop
  to : IsHopTo places h hop

pub record From {A : Type 0} (places : List A) (hs : List (Hop A)) (k : Hop ℕ) : Type 0 where
  pub hop : Hop A
  pub among : Contains hs hop
  pub to : IsHopTo places hop k

hop_into : {A : Type 0} (places : List A) (hs : List (Hop A)) (ks : List (Hop ℕ)) (h : Hop A) → AreHops places hs ks → Contains hs h → Into places ks h
hop_into places hs ks h AreHops.none among = absurd (omega (arith, among.1))
hop_into places hs ks h (AreHops.more {h = one} {k = k} {hs = rest} {ks = numbers} is others) among = ⊎_elim
    (λ e. record { hop = k; among = here k numbers; to = subst (λ x. IsHopTo places x k) e is })
    (λ later. let found = hop_into places rest numbers h others later in record { hop = found.hop; among = behind k numbers found.hop found.among; to = found.to })
    (out one rest h among)

pub hop_from : {A : Type 0} (places : List A) (hs : List (Hop A)) (ks : List (Hop ℕ)) (k : Hop ℕ) → AreHops places hs ks → Contains ks k → From places hs k
hop_from places hs ks k AreHops.none among = absurd (omega (arith, among.1))
hop_from places hs ks k (AreHops.more {h = h} {k = one} {hs = rest} {ks = numbers} is others) among = ⊎_elim
    (λ e. record { hop = h; among = here h rest; to = subst (λ x. IsHopTo places h x) e is })
    (λ later. let found = hop_from places rest numbers k others later in record { hop = found.hop; among = behind h rest found.hop found.among; to = found.to })
    (out one numbers k among)

-- ---- places by number

module _ {A : Type 0} (f : Flow A) (places : List A) (hops : ℕ → List (Hop ℕ)) (explored : IsExplored f places hops) where
  abbrev g : Flow ℕ
  g = by_number f places hops

  -- a hop leads from the place of the number to one that has a number too
  record Led (i : ℕ) (b : A) (t : Bool) : Type 0 where
    number : ℕ
    place : slice_get places number ≡ Some b
    hop : Contains (hops i) (record { to = number; is_throw = t })

  led : (i : ℕ) (a b : A) (t : Bool) → slice_get places i ≡ Some a → Contains (f.hops a) (record { to = b; is_throw = t }) → Led i b t
  led i a b t at hop = let found = hop_into places (f.hops a) (hops i) (record { to = b; is_throw = t }) (explored.hops_are i a at) hop in
      record { number = found.hop.to; place = found.to.place; hop = subst (λ s. Contains (hops i) (record { to = found.hop.to; is_throw = s })) found.to.same found.among }

  -- and so does a hop by number
  record LedBack (a : A) (j : ℕ) (t : Bool) : Type 0 where
    to : A
    place : slice_get places j ≡ Some to
    hop : Contains (f.hops a) (record { to = to; is_throw = t })

  led_back : (i j : ℕ) (a : A) (t : Bool) → slice_get places i ≡ Some a → Contains (hops i) (record { to = j; is_throw = t }) → LedBack a j t
  led_back i j a t at hop = let found = hop_from places (f.hops a) (hops i) (record { to = j; is_throw = t }) (explored.hops_are i a at) hop in
      record { to = found.hop.to; place = found.to.place; hop = subst (λ s. Contains (f.hops a) (record { to = found.hop.to; is_throw = s })) (sym found.to.same) found.among }

  pub record HasPlace (a : A) : Type 0 where
    pub number : ℕ
    pub place : slice_get places number ≡ Some a

  pub has_place : (a : A) → IsReached f a → HasPlace a
  has_place a IsReached.start = record { number = 0; place = explored.start }
  has_place b (IsReached.on {a = a} reached goes) = let before = has_place a reached in let next = led before.number a b goes.is_throw before.place goes.hop in record { number = next.number; place = next.place }

  -- ---- steps

  point_is : (i : ℕ) (a : A) → slice_get places i ≡ Some a → g.point i ≡ f.point a
  point_is i a at = ap (option_and_then f.point) at

  to_point : (i : ℕ) (a : A) → slice_get places i ≡ Some a → IsPoint f a → IsPoint g i
  to_point i a at p = record { point = p.point; stands = point_is i a at ∙ p.stands }

  of_point : (i : ℕ) (a : A) → slice_get places i ≡ Some a → IsPoint g i → IsPoint f a
  of_point i a at p = record { point = p.point; stands = sym (point_is i a at) ∙ p.stands }

  record Numbered (i : ℕ) (b : A) : Type 0 where
    number : ℕ
    place : slice_get places number ≡ Some b
    onward : Onward g i number

  onward_into : (i : ℕ) (a b : A) → slice_get places i ≡ Some a → Onward f a b → Numbered i b
  onward_into i a b at (Onward.here p) = record { number = i; place = at; onward = Onward.here (to_point i a at p) }
  onward_into i a b at (Onward.on {r = r} quiet goes more) = let next = led i a r goes.is_throw at goes.hop in let rest = onward_into next.number r b next.place more in
      record { number = rest.number; place = rest.place; onward = Onward.on (λ p. quiet (of_point i a at p)) (record { is_throw = goes.is_throw; hop = next.hop }) rest.onward }

  record Placed (a : A) (j : ℕ) : Type 0 where
    to : A
    place : slice_get places j ≡ Some to
    onward : Onward f a to

  onward_from : (i j : ℕ) (a : A) → slice_get places i ≡ Some a → Onward g i j → Placed a j
  onward_from i j a at (Onward.here p) = record { to = a; place = at; onward = Onward.here (of_point i a at p) }
  onward_from i j a at (Onward.on {r = r} quiet goes more) = let next = led_back i r a goes.is_throw at goes.hop in let rest = onward_from r j next.to next.place more in
      record { to = rest.to; place = rest.place; onward = Onward.on (λ p. quiet (to_point i a at p)) (record { is_throw = goes.is_throw; hop = next.hop }) rest.onward }

  record StepsTo (i : ℕ) (b : A) (t : Bool) : Type 0 where
    number : ℕ
    place : slice_get places number ≡ Some b
    steps : Steps g i number t

  steps_into : (i : ℕ) (a b : A) (t : Bool) → slice_get places i ≡ Some a → Steps f a b t → StepsTo i b t
  steps_into i a b t at s = let next = led i a s.next t at s.hop in let rest = onward_into next.number s.next b next.place s.onward in
      record { number = rest.number; place = rest.place; steps = record { from = to_point i a at s.from; next = next.number; hop = next.hop; onward = rest.onward } }

  record StepsFrom (a : A) (j : ℕ) (t : Bool) : Type 0 where
    to : A
    place : slice_get places j ≡ Some to
    steps : Steps f a to t

  steps_from : (i j : ℕ) (a : A) (t : Bool) → slice_get places i ≡ Some a → Steps g i j t → StepsFrom a j t
  steps_from i j a t at s = let next = led_back i s.next a t at s.hop in let rest = onward_from s.next j next.to next.place s.onward in
      record { to = rest.to; place = rest.place; steps = record { from = of_point i a at s.from; next = next.to; hop = next.hop; onward = rest.onward } }

  -- ---- the number of a place

  module _ (same : A → A → Bool) (tells : (a b : A) → Decides (same a b) (a ≡ b)) where
    abbrev index : List A → A → ℕ
    index [] a = 0
    index (b ∷ rest) a = if same b a then 0 else index rest a + 1

    index_finds : (all : List A) (i : ℕ) (a : A) → slice_get all i ≡ Some a → slice_get all (index all a) ≡ Some a
    index_finds [] i a at = absurd (none-some a at)
    index_finds (b ∷ rest) i a at = by (same b a) (tells b a) (λ k e. index_finds rest k a e) i at
      where
        by : (t : Bool) → Decides t (b ≡ a) → ((k : ℕ) → slice_get rest k ≡ Some a → slice_get rest (index rest a) ≡ Some a) → (i : ℕ) → slice_get (b ∷ rest) i ≡ Some a → slice_get (b ∷ rest) (if t then 0 else index rest a + 1) ≡ Some a
        by true is later i at = ap Some (is.0 refl)
        by false is later zero at = absurd (false≢true (is.1 cc))
        by false is later (suc i) at = rw add-one (later i at)

    index_is : (i : ℕ) (a : A) → slice_get places i ≡ Some a → index places a ≡ i
    index_is i a at = explored.apart (index places a) i a (index_finds places i a at) at

    module _ (body : ℕ) (points : List Point) (number : ℕ → Option ℕ) (steps : StepList) (points_are : ArePoints f body places points number) (steps_are : AreSteps g number steps) where
      abbrev or_none : Option ℕ → ℕ
      or_none (Some k) = k
      or_none None = 0

      abbrev number_of : A → ℕ
      number_of a = or_none (number (index places a))

      number_is : (i k : ℕ) (a : A) → slice_get places i ≡ Some a → number i ≡ Some k → number_of a ≡ k
      number_is i k a at e = ap or_none (ap number (index_is i a at) ∙ e)

      stands : (a : A) (x : Point) → IsReached f a → f.point a ≡ Some x → slice_get points (number_of a) ≡ Some x
      stands a x reached is = let p = has_place a reached in let n = points_are.numbered p.number a x p.place is in
          ap (slice_get points) (number_is p.number n.0 a p.place n.1) ∙ n.2

      apart : (a b : A) (x y : Point) → IsReached f a → f.point a ≡ Some x → IsReached f b → f.point b ≡ Some y → number_of a ≡ number_of b → a ≡ b
      apart a b x y ra xa rb yb e = let p = has_place a ra in let q = has_place b rb in
          let m = points_are.numbered p.number a x p.place xa in let n = points_are.numbered q.number b y q.place yb in
          let one : m.0 ≡ n.0 = sym (number_is p.number m.0 a p.place m.1) ∙ e ∙ number_is q.number n.0 b q.place n.1 in
          let at : p.number ≡ q.number = points_are.apart p.number q.number n.0 (m.1 ∙ ap Some one) n.1 in
          some_same a b (sym p.place ∙ ap (slice_get places) at ∙ q.place)
        where
          some_same : (a b : A) → Some a ≡ Some b → a ≡ b
          some_same a b e = cc

      all : (k : ℕ) → 3 ≤ k → k < length points → (a : A) × (x : Point) × IsReached f a × (f.point a ≡ Some x) × (number_of a ≡ k)
      all k least most = let n = points_are.all k least most in let o = points_are.only n.0 k n.1 in
          (o.0, o.1, explored.reached n.0 o.0 o.2, o.3, number_is n.0 k o.0 o.2 n.1)

      numbering : IsNumbering f body points number_of
      numbering = record {
        entry = points_are.entry;
        exit = points_are.exit;
        thrown = points_are.thrown;
        own = λ a k x reached is own kind. let p = has_place a reached in number_is p.number k a p.place (points_are.own p.number a x k p.place is own kind);
        stands = stands;
        apart = apart;
        all = all;
      }

      only : (m n : ℕ) (t : Bool) → Contains steps (m, n, t) → HasStep f number_of m n t
      only m n t among = let h = steps_are.only m n t among in let o = points_are.only h.from m h.starts in let s = steps_from h.from h.to o.0 t o.2 h.steps in
          record { from = o.0; to = s.to; reached = explored.reached h.from o.0 o.2; numbers = (number_is h.from m o.0 o.2 h.starts, number_is h.to n s.to s.place h.ends); steps = s.steps }

      onward_ends : (a b : A) → Onward f a b → IsPoint f b
      onward_ends a b (Onward.here at) = at
      onward_ends a b (Onward.on {r = r} quiet goes more) = onward_ends r b more

      every : (m n : ℕ) (t : Bool) → HasStep f number_of m n t → Contains steps (m, n, t)
      every m n t h = let p = has_place h.from h.reached in let s = steps_into p.number h.from h.to t p.place h.steps in
          let x = h.steps.from in let y = onward_ends h.steps.next h.to h.steps.onward in
          let i = points_are.numbered p.number h.from x.point p.place x.stands in let j = points_are.numbered s.number h.to y.point s.place y.stands in
          steps_are.every m n t (record {
            from = p.number;
            to = s.number;
            starts = i.1 ∙ ap Some (sym (number_is p.number i.0 h.from p.place i.1) ∙ h.numbers.0);
            ends = j.1 ∙ ap Some (sym (number_is s.number j.0 h.to s.place j.1) ∙ h.numbers.1);
            steps = s.steps;
          })

      -- what was explored, with the numbers of its points and the steps over them, is the graph
      pub explored_graph : IsGraph f body points steps
      explored_graph = record { number = number_of; numbering = numbering; only = only; every = every }
