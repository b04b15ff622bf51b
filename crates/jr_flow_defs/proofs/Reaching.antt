-- Edges by the numbers of points.
use Rattle.std.proofs.Common.{◌≡◌, refl, sym, ◌∙◌, ap, subst, ℕ, Bool, true, false, List, Option, Some, None, option_and_then, slice_get}
use Rattle.std.specs.List.{Contains}
use Rattle.std.proofs.lemmas.Option.{same_Some, option_and_then_some}
use Rattle.jr_tree.specs.Rows.{Rows}
use Rattle.jr_flow_defs.specs.declared.point.Point.{Point}
use Rattle.jr_flow_defs.specs.declared.point.PointKind.TheVariants as kind
use Rattle.jr_flow_defs.specs.Paths.{Flow, IsReached, Path, IsPoint}
use Rattle.jr_flow_defs.specs.Edges.{point, FlowNode, Naming, node_of_point, node_at, IsNode, IsInside, ControlEdge, HasStep, IsGraph, Defines, DefUse}
use Rattle.jr_flow_defs.specs.Graphs.{StepList, StepPath, StopsAt, PathsGoByNumbers, PassesAt, is_definition_of, is_node_point, ReachesByNumbers, ReachingGoesByNumbers, EdgeByNumbers, EdgesGoByNumbers}
use Rattle.jr_flow_defs.proofs.Flowing.{definition_tells, some_node}
use Rattle.jr_flow_defs.proofs.Numbered.{by_numbers, by_places, reached_along, step_path, onward_point}

pub paths_go_by_numbers : {A : Type 0} (f : Flow A) (body : ℕ) → PathsGoByNumbers f body
paths_go_by_numbers f body points steps g stops points_stop a b r x s y = (λ path. by_numbers f body points steps g stops points_stop a b r x y path, λ path. by_places f body points steps g stops points_stop a b r x s y path)

-- ---- other stops

path_under : {A : Type 0} (f : Flow A) (S T : A → Type 0) → ((a : A) → T a → S a) → (a b : A) → Path f S a b → Path f T a b
path_under f S T weaker a b (Path.hop g) = Path.hop g
path_under f S T weaker a b (Path.on {r = r} path apart g) = Path.on (path_under f S T weaker a r path) (λ t. apart (weaker r t)) g

-- from what has a step
steps_under : (steps : StepList) (S T : ℕ → Type 0) → ((k j : ℕ) (t : Bool) → Contains steps (k, j, t) → T k → S k) → (i j : ℕ) → StepPath steps S i j → StepPath steps T i j
steps_under steps S T weaker i j (StepPath.step t c) = StepPath.step t c
steps_under steps S T weaker i j (StepPath.on {k = k} t path apart c) = StepPath.on t (steps_under steps S T weaker i k path) (λ s. apart (weaker k j t c s)) c

-- ---- stops that are told by points

abbrev passes : (Point → Bool) → Option Point → Bool
passes test None = false
passes test (Some x) = test x

passing : (test : Point → Bool) (o : Option Point) → passes test o ≡ true → (x : Point) × (o ≡ Some x) × (test x ≡ true)
passing test None h = absurd (let e = h in cc)
passing test (Some x) h = (x, refl, h)

module _ {A : Type 0} (f : Flow A) (body : ℕ) (points : List Point) (steps : StepList) (g : IsGraph f body points steps) (test : Point → Bool) where
  abbrev stops : A → Bool
  stops a = passes test (f.point a)

  abbrev Stops : A → Type 0
  Stops a = stops a ≡ true

  stop_point : (a : A) → stops a ≡ true → IsPoint f a
  stop_point a h = let found = passing test (f.point a) h in record { point = found.0; stands = found.1 }

  stop_at : (a : A) (x : Point) → f.point a ≡ Some x → test x ≡ true → stops a ≡ true
  stop_at a x e h = ap (passes test) e ∙ h

  abbrev Places : ℕ → Type 0
  Places = StopsAt f g.number stops

  to_places : (k j : ℕ) (t : Bool) → Contains steps (k, j, t) → PassesAt points test k → Places k
  to_places k j t c d =
      let s = g.only k j t c in
      let x = s.steps.from in
      let e = same_Some _ _ (sym (subst (λ z. slice_get points z ≡ Some x.point) s.numbers.0 (g.numbering.stands s.from x.point s.reached x.stands)) ∙ d.stands) in
      record { at = s.from; reached = s.reached; point = x; numbered = s.numbers.0; stop = stop_at s.from x.point x.stands (ap test e ∙ d.passes) }

  to_numbers : (k j : ℕ) (t : Bool) → Contains steps (k, j, t) → Places k → PassesAt points test k
  to_numbers k j t c s = let found = passing test (f.point s.at) s.stop in
      record { point = found.0; stands = subst (λ z. slice_get points z ≡ Some found.0) s.numbered (g.numbering.stands s.at found.0 s.reached found.1); passes = found.2 }

  -- a path from point to point goes by numbers
  numbers_of : (a b : A) → IsReached f a → IsPoint f a → IsPoint f b → Path f Stops a b → StepPath steps (PassesAt points test) (g.number a) (g.number b)
  numbers_of a b r x y path = steps_under steps Places (PassesAt points test) to_places (g.number a) (g.number b) (by_numbers f body points steps g stops stop_point a b r x y path)

  comes_to : (a b : A) → IsReached f a → Path f Stops a b → IsReached f b
  comes_to a b r path = reached_along f Stops stop_point a b r path

  -- a place of a number, with the point that stands there
  record PlaceOf (k : ℕ) (x : Point) : Type 0 where
    at : A
    reached : IsReached f at
    stands : f.point at ≡ Some x
    numbered : g.number at ≡ k

  place_of : (k : ℕ) (x : Point) (a : A) → IsReached f a → IsPoint f a → g.number a ≡ k → slice_get points k ≡ Some x → PlaceOf k x
  place_of k x a r y e d = record {
    at = a;
    reached = r;
    numbered = e;
    stands = y.stands ∙ (sym (subst (λ z. slice_get points z ≡ Some y.point) e (g.numbering.stands a y.point r y.stands)) ∙ d);
  }

  first_place : (i j : ℕ) (x : Point) → StepPath steps Places i j → slice_get points i ≡ Some x → PlaceOf i x
  first_place i j x (StepPath.step t c) d = let s = g.only i j t c in place_of i x s.from s.reached s.steps.from s.numbers.0 d
  first_place i j x (StepPath.on {k = k} t path apart c) d = first_place i k x path d

  after : (k j : ℕ) (t : Bool) (y : Point) → HasStep f g.number k j t → slice_get points j ≡ Some y → PlaceOf j y
  after k j t y s d = place_of j y s.to (comes_to s.from s.to s.reached (step_path f Stops stop_point s.from s.to t s.steps)) (onward_point f s.steps.next s.to s.steps.onward) s.numbers.1 d

  last_place : (i j : ℕ) (y : Point) → StepPath steps Places i j → slice_get points j ≡ Some y → PlaceOf j y
  last_place i j y (StepPath.step t c) d = after i j t y (g.only i j t c) d
  last_place i j y (StepPath.on {k = k} t path apart c) d = after k j t y (g.only k j t c) d

  -- and a path by numbers is one from place to place
  record PathOf (i j : ℕ) (x y : Point) : Type 0 where
    from : PlaceOf i x
    to : PlaceOf j y
    path : Path f Stops from.at to.at

  places_of : (i j : ℕ) (x y : Point) → slice_get points i ≡ Some x → slice_get points j ≡ Some y → StepPath steps (PassesAt points test) i j → PathOf i j x y
  places_of i j x y d e path =
      let between = steps_under steps (PassesAt points test) Places to_numbers i j path in
      let a = first_place i j x between d in
      let b = last_place i j y between e in
      let moved : StepPath steps Places (g.number a.at) (g.number b.at) = subst (λ z. StepPath steps Places z (g.number b.at)) (sym a.numbered) (subst (λ z. StepPath steps Places i z) (sym b.numbered) between) in
      record { from = a; to = b; path = by_places f body points steps g stops stop_point a.at b.at a.reached (record { point = x; stands = a.stands }) b.reached (record { point = y; stands = b.stands }) moved }

-- ---- from definitions to uses

module _ {A : Type 0} (f : Flow A) (body : ℕ) (points : List Point) (steps : StepList) (g : IsGraph f body points steps) where
  to_definition : (d : ℕ) (a : A) → passes (is_definition_of d) (f.point a) ≡ true → Defines f d a
  to_definition d a h = let found = passing (is_definition_of d) (f.point a) h in
      record { row = found.0.row; stands = found.1 ∙ ap Some (λ i. record { row = found.0.row; kind = (definition_tells d found.0.kind).0 found.2 i }) }

  of_definition : (d : ℕ) (a : A) → Defines f d a → passes (is_definition_of d) (f.point a) ≡ true
  of_definition d a s = ap (passes (is_definition_of d)) s.stands ∙ (definition_tells d (kind.Definition d)).1 refl

  def_use_to : (i j : ℕ) → DefUse f i j → ReachesByNumbers points steps i j
  def_use_to i j u =
      let test = is_definition_of u.local in
      let path = path_under f (Defines f u.local) (λ x. passes test (f.point x) ≡ true) (to_definition u.local) u.from u.to u.path in
      let x : Point = record { row = i; kind = kind.Definition u.local } in
      let y : Point = record { row = j; kind = kind.Use u.local } in
      record {
        local = u.local;
        from = g.number u.from;
        to = g.number u.to;
        defines = g.numbering.stands u.from x u.reached u.defines;
        uses = g.numbering.stands u.to y (comes_to f body points steps g test u.from u.to u.reached path) u.uses;
        path = numbers_of f body points steps g test u.from u.to u.reached (record { point = x; stands = u.defines }) (record { point = y; stands = u.uses }) path;
      }

  def_use_of : (i j : ℕ) → ReachesByNumbers points steps i j → DefUse f i j
  def_use_of i j r =
      let test = is_definition_of r.local in
      let w = places_of f body points steps g test r.from r.to (record { row = i; kind = kind.Definition r.local }) (record { row = j; kind = kind.Use r.local }) r.defines r.uses r.path in
      record {
        local = r.local;
        from = w.from.at;
        to = w.to.at;
        reached = w.from.reached;
        defines = w.from.stands;
        uses = w.to.stands;
        path = path_under f (λ x. passes test (f.point x) ≡ true) (Defines f r.local) (of_definition r.local) w.from.at w.to.at w.path;
      }

-- ---- edges of control

module _ {A : Type 0} (p : Rows) (f : Flow A) (body : ℕ) (points : List Point) (steps : StepList) (g : IsGraph f body points steps) (naming : Naming) where
  abbrev test : Point → Bool
  test = is_node_point body naming

  node_of : (a : A) (x : Point) → f.point a ≡ Some x → node_at f body naming a ≡ node_of_point body naming x
  node_of a x e = ap (option_and_then (node_of_point body naming)) e

  to_node : (a : A) → passes test (f.point a) ≡ true → IsNode f body naming a
  to_node a h = let found = passing test (f.point a) h in let node = (some_node (node_of_point body naming found.0)).0 found.2 in
      record { node = node.0; stands = node_of a found.0 found.1 ∙ node.1 }

  -- the point of a node
  record PointOf (a : A) (x : FlowNode) : Type 0 where
    point : Point
    stands : f.point a ≡ Some point
    named : node_of_point body naming point ≡ Some x

  point_of : (a : A) (x : FlowNode) → node_at f body naming a ≡ Some x → PointOf a x
  point_of a x e = option_and_then_some (node_of_point body naming) (f.point a) x e (λ y s n. record { point = y; stands = s; named = n })

  of_node : (a : A) → IsNode f body naming a → passes test (f.point a) ≡ true
  of_node a s = let x = point_of a s.node s.stands in ap (passes test) x.stands ∙ (some_node (node_of_point body naming x.point)).1 (s.node, x.named)

  edge_to : (x y : FlowNode) → ControlEdge p f body naming x y → EdgeByNumbers p body naming points steps x y
  edge_to x y e =
      let path = path_under f (IsNode f body naming) (λ z. passes test (f.point z) ≡ true) to_node e.from e.to e.path in
      let a = point_of e.from x e.starts in
      let b = point_of e.to y e.ends in
      record {
        from = g.number e.from;
        to = g.number e.to;
        first = a.point;
        second = b.point;
        from_stands = g.numbering.stands e.from a.point e.reached a.stands;
        to_stands = g.numbering.stands e.to b.point (comes_to f body points steps g test e.from e.to e.reached path) b.stands;
        starts = a.named;
        ends = b.named;
        path = numbers_of f body points steps g test e.from e.to e.reached (record { point = a.point; stands = a.stands }) (record { point = b.point; stands = b.stands }) path;
        apart = λ h. e.apart (record { same = h.0; inner = a.point; outer = b.point; first = a.stands; second = b.stands; inside = h.1 });
      }

  edge_of : (x y : FlowNode) → EdgeByNumbers p body naming points steps x y → ControlEdge p f body naming x y
  edge_of x y e =
      let w = places_of f body points steps g test e.from e.to e.first e.second e.from_stands e.to_stands e.path in
      record {
        from = w.from.at;
        to = w.to.at;
        reached = w.from.reached;
        starts = node_of w.from.at e.first w.from.stands ∙ e.starts;
        ends = node_of w.to.at e.second w.to.stands ∙ e.ends;
        path = path_under f (λ z. passes test (f.point z) ≡ true) (IsNode f body naming) of_node w.from.at w.to.at w.path;
        apart = λ o. e.apart (o.same, subst (λ z. IsInside p z e.second) (same_Some _ _ (sym o.first ∙ w.from.stands)) (subst (λ z. IsInside p o.inner z) (same_Some _ _ (sym o.second ∙ w.to.stands)) o.inside));
      }

pub reaching_goes_by_numbers : {A : Type 0} (f : Flow A) (body : ℕ) → ReachingGoesByNumbers f body
reaching_goes_by_numbers f body points steps g i j = (def_use_to f body points steps g i j, def_use_of f body points steps g i j)

pub edges_go_by_numbers : {A : Type 0} (p : Rows) (f : Flow A) (body : ℕ) → EdgesGoByNumbers p f body
edges_go_by_numbers p f body points steps g naming x y = (edge_to p f body points steps g naming x y, edge_of p f body points steps g naming x y)
