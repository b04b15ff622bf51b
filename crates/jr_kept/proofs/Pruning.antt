-- A graph that may have points which control does not reach, without these.
use Rattle.std.proofs.Common.{◌≡◌, ◌⊎◌, inl, inr, ⊎_elim, refl, sym, ◌∙◌, ap, subst, arith, ℕ, ◌<◌, ◌≤◌, Bool, true, List, length, Option, Some, None, unwrap_or, slice_get}
use Rattle.std.specs.List.{Contains}
use Rattle.std.proofs.lemmas.Bool.{cases_lt}
use Rattle.std.proofs.lemmas.Option.{none-some, same_Some}
use Rattle.jr_places.specs.Stamps.{is_stamped}
use Rattle.jr_flow_defs.specs.declared.point.Point.{Point}
use Rattle.jr_flow_defs.specs.declared.point.PointKind.{PointKind}
use Rattle.jr_flow_defs.specs.declared.point.PointKind.TheVariants as kind
use Rattle.jr_flow_defs.specs.Paths.{Flow, Goes, IsReached, IsPoint, Onward, Steps}
use Rattle.jr_flow_defs.specs.Edges.{own_number, HasStep, IsGraph}
use Rattle.jr_flow_defs.specs.Graphs.{StepList}
use Rattle.jr_flow_defs.proofs.Numbered.{reached_along, step_path, onward_point}
use Rattle.jr_kept.specs.Pruned.{IsArrived, is_left, number_in, one_number, IsPruned}
use Rattle.jr_kept.specs.Spliced.{IsLooseGraph}
use Rattle.jr_kept.proofs.Naming.{get_inside}
use Rattle.jr_kept.proofs.Coming.{first_left, stamped_left, left_stamped, HasOldStep, left_out, left_into}

from_point : {A : Type 0} (f : Flow A) (a b : A) → IsPoint f a → Onward f a b → a ≡ b
from_point f a b x (Onward.here at) = refl
from_point f a b x (Onward.on apart g more) = absurd (apart x)

own_few : (k : PointKind) (n : ℕ) → own_number k ≡ Some n → n < 3
own_few kind.Entry n e = let same = same_Some 0 n e in omega (arith, same)
own_few kind.Exit n e = let same = same_Some 1 n e in omega (arith, same)
own_few kind.Thrown n e = let same = same_Some 2 n e in omega (arith, same)
own_few kind.Node n e = absurd (none-some n e)
own_few (kind.Definition d) n e = absurd (none-some n e)
own_few (kind.Use d) n e = absurd (none-some n e)

module _ {A : Type 0} (f : Flow A) (body : ℕ) (points : List Point) (steps : StepList) (g : IsLooseGraph f body points steps) where
  abbrev Arrived : ℕ → Type 0
  Arrived k = IsArrived (length points) steps k

  point_or_not : (a : A) (o : Option Point) → f.point a ≡ o → IsPoint f a ⊎ (IsPoint f a → ⊥)
  point_or_not a (Some x) e = inl (record { point = x; stands = e })
  point_or_not a None e = inr (λ at. none-some at.point (sym e ∙ at.stands))

  number_inside : (a : A) → IsReached f a → IsPoint f a → g.number a < length points
  number_inside a r x = get_inside points (g.number a) x.point (g.stands a x.point r x.stands)

  -- the last point on the way to a place
  record Last (a : A) : Type 0 where
    last : A
    reached : IsReached f last
    at : IsPoint f last
    come : Arrived (g.number last)
    onward : (b : A) → Onward f a b → (last ≡ b) ⊎ ((t : Bool) × Steps f last b t)

  come_on : (a b : A) → Last a → IsReached f b → IsPoint f b → Onward f a b → Arrived (g.number b)
  come_on a b l r x way = ⊎_elim (λ same. subst (λ z. Arrived (g.number z)) same l.come)
      (λ s. IsArrived.on s.0 l.come (g.every l.last b s.0 l.reached s.1) (number_inside b r x)) (l.onward b way)

  passed : (a b : A) → IsReached f a → Goes f a b → Last a → IsPoint f a ⊎ (IsPoint f a → ⊥) → Last b
  passed a b r h l (inl x) = record { last = a; reached = r; at = x; come = come_on a a l r x (Onward.here x); onward = λ c way. inr (h.is_throw, record { from = x; next = b; hop = h.hop; onward = way }) }
  passed a b r h l (inr none) = record { last = l.last; reached = l.reached; at = l.at; come = l.come; onward = λ c way. l.onward c (Onward.on none h way) }

  begun : Last f.start
  begun = record {
    last = f.start;
    reached = IsReached.start;
    at = g.begins;
    come = subst Arrived (sym g.first) (IsArrived.first (get_inside points 0 _ g.entry));
    onward = λ b way. inl (from_point f f.start b g.begins way);
  }

  lasts : (a : A) → IsReached f a → Last a
  lasts a IsReached.start = begun
  lasts b (IsReached.on {a = a} r h) = passed a b r h (lasts a r) (point_or_not a (f.point a) refl)

  arrived : (a : A) → IsReached f a → IsPoint f a → Arrived (g.number a)
  arrived a r x = come_on a a (lasts a r) r x (Onward.here x)

  -- a point that control comes to has the number
  record Place (k : ℕ) : Type 0 where
    at : A
    reached : IsReached f at
    point : IsPoint f at
    numbered : g.number at ≡ k

  reached_by : (a b : A) (t : Bool) → IsReached f a → Steps f a b t → IsReached f b
  reached_by a b t r s = reached_along f (IsPoint f) (λ x p. p) a b r (step_path f (IsPoint f) (λ x p. p) a b t s)

  step_place : (i j : ℕ) (t : Bool) → Place i → Contains steps (i, j, t) → Place j
  step_place i j t p c = let s = g.only i j t c p.at p.reached p.point p.numbered in
      record { at = s.0; reached = reached_by p.at s.0 t p.reached s.2; point = onward_point f s.2.next s.0 s.2.onward; numbered = s.1 }

  place : (k : ℕ) → Arrived k → Place k
  place k (IsArrived.first lt) = record { at = f.start; reached = IsReached.start; point = g.begins; numbered = g.first }
  place k (IsArrived.on {i = i} t way c lt) = step_place i k t (place i way) c

  module _ (left : List Point) (rest : StepList) (h : IsPruned points steps left rest) where
    abbrev number : A → ℕ
    number a = unwrap_or (number_in h.numbers (g.number a)) 0

    -- the number of a place that has one
    number_is : (a : A) (k n : ℕ) → g.number a ≡ k → slice_get h.numbers k ≡ Some (Some n) → number a ≡ n
    number_is a k n e is = ap (λ z. unwrap_or (number_in h.numbers z) 0) e ∙ ap (λ o. unwrap_or (one_number o) 0) is

    stamped : (a : A) → IsReached f a → IsPoint f a → is_stamped h.met (g.number a) ≡ true
    stamped a r x = (h.arrived (g.number a)).1 (arrived a r x)

    record Stands (a : A) (x : Point) : Type 0 where
      numbered : slice_get h.numbers (g.number a) ≡ Some (Some (number a))
      stands_left : slice_get left (number a) ≡ Some x

    stands : (a : A) (x : Point) → IsReached f a → f.point a ≡ Some x → Stands a x
    stands a x r e = let at : IsPoint f a = record { point = x; stands = e } in
        let one = h.numbered.has (g.number a) x (number_inside a r at) (g.stands a x r e) (stamped_left h.met (g.number a) (stamped a r at)) in
        let is = number_is a (g.number a) one.0 refl one.1 in
        record { numbered = subst (λ n. slice_get h.numbers (g.number a) ≡ Some (Some n)) (sym is) one.1; stands_left = subst (λ n. slice_get left n ≡ Some x) (sym is) one.2 }

    number_of : (a : A) (x : Point) → IsReached f a → f.point a ≡ Some x → number_in h.numbers (g.number a) ≡ Some (number a)
    number_of a x r e = ap one_number (stands a x r e).numbered

    -- the entry and the exits stay where they are
    own_point : (k : ℕ) (x : Point) → k < 3 → slice_get points k ≡ Some x → slice_get left k ≡ Some x
    own_point k x lt e = let inside = get_inside points k x e in let one = h.numbered.has k x inside e (first_left h.met k lt) in
        let same : one.0 ≡ k = same_Some one.0 k (same_Some (Some one.0) (Some k) (sym one.1 ∙ h.numbered.own k inside lt)) in subst (λ n. slice_get left n ≡ Some x) same one.2

    -- a point that is left has a place
    record Numbered (n : ℕ) : Type 0 where
      at : A
      point : Point
      reached : IsReached f at
      stands_at : f.point at ≡ Some point
      numbered : number at ≡ n

    by_place : (k n : ℕ) → slice_get h.numbers k ≡ Some (Some n) → Place k → Numbered n
    by_place k n is p = record { at = p.at; point = p.point.point; reached = p.reached; stands_at = p.point.stands; numbered = number_is p.at k n p.numbered is }

    others : (n : ℕ) → 3 ≤ n → n < length left → Numbered n
    others n le lt = by_place one.0 n one.3 (place one.0 ((h.arrived one.0).0 (left_stamped h.met one.0 past one.2)))
      where
        one : (k : ℕ) × (k < length points) × (is_left h.met k ≡ true) × (slice_get h.numbers k ≡ Some (Some n))
        one = h.numbered.back n lt

        past : 3 ≤ one.0
        past = ⊎_elim (λ less. let same = same_Some one.0 n (same_Some (Some one.0) (Some n) (sym (h.numbered.own one.0 one.1 less) ∙ one.3)) in absurd (omega (arith, same, less, le))) (λ more. more) (cases_lt one.0 3)

    number_gives : (k n : ℕ) → number_in h.numbers k ≡ Some n → slice_get h.numbers k ≡ Some (Some n)
    number_gives k n e = by (slice_get h.numbers k) refl e
      where
        by : (o : Option (Option ℕ)) → slice_get h.numbers k ≡ o → one_number o ≡ Some n → slice_get h.numbers k ≡ Some (Some n)
        by None is same = absurd (none-some n same)
        by (Some q) is same = is ∙ ap Some same

    only : (i j : ℕ) (t : Bool) → HasOldStep h.met h.numbers steps i j t → HasStep f number i j t
    only i j t o = let p = place o.from ((h.arrived o.from).0 o.reached) in let s = g.only o.from o.to t o.step p.at p.reached p.point p.numbered in record {
      from = p.at;
      to = s.0;
      reached = p.reached;
      numbers = (number_is p.at o.from i p.numbered (number_gives o.from i o.starts), number_is s.0 o.to j s.1 (number_gives o.to j o.ends));
      steps = s.2;
    }

    every : (i j : ℕ) (t : Bool) → HasStep f number i j t → Contains rest (i, j, t)
    every i j t s = let r = reached_by s.from s.to t s.reached s.steps in let to = onward_point f s.steps.next s.to s.steps.onward in
        subst (λ xs. Contains xs (i, j, t)) (sym h.rest_is) (left_into h.met h.numbers steps (g.number s.from) (g.number s.to) i j t (stamped s.from s.reached s.steps.from)
        (number_of s.from s.steps.from.point s.reached s.steps.from.stands ∙ ap Some s.numbers.0)
        (number_of s.to to.point r to.stands ∙ ap Some s.numbers.1)
        (g.every s.from s.to t s.reached s.steps))

    pub pruned_graph : IsGraph f body left rest
    pruned_graph = record {
      number = number;
      numbering = record {
        entry = own_point 0 _ (omega arith) g.entry;
        exit = own_point 1 _ (omega arith) g.exit;
        thrown = own_point 2 _ (omega arith) g.thrown;
        own = λ a k x r e row is. let same = g.own a k x r e row is in
            number_is a k k same (h.numbered.own k (subst (λ n. n < length points) same (number_inside a r (record { point = x; stands = e }))) (own_few x.kind k is));
        stands = λ a x r e. (stands a x r e).stands_left;
        apart = λ a b x y ra ea rb eb same. g.apart a b x y ra ea rb eb
            (h.numbered.apart (g.number a) (g.number b) (number b) (subst (λ n. slice_get h.numbers (g.number a) ≡ Some (Some n)) same (stands a x ra ea).numbered) (stands b y rb eb).numbered);
        all = λ k le lt. let o = others k le lt in (o.at, o.point, o.reached, o.stands_at, o.numbered);
      };
      only = λ i j t c. only i j t (left_out h.met h.numbers steps i j t (subst (λ xs. Contains xs (i, j, t)) h.rest_is c));
      every = every;
    }
