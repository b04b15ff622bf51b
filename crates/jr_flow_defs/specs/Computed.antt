-- Edges as lists, computed by searches of so many rounds, and the test that the searches are done.
use Rattle.std.specs.Prelude.{ℕ, zero, suc, ◌+◌, Bool, true, false, ◌&&◌, if◌then◌else◌, List, [], ◌∷◌, ◌++◌, map, flat_map, Option, Some, None, is_some, nat_eq, nat_lt}
use Rattle.std.specs.List.{Contains, list_all}
use Rattle.std.specs.Cmp.Lexicographic.{pointwise}
use Rattle.jr_tree.specs.Rows.{Rows, end}
use Rattle.jr_plain.specs.Search.{among}
use Rattle.jr_flow_defs.specs.declared.point.Point.{Point}
use Rattle.jr_flow_defs.specs.declared.point.PointKind.{PointKind}
use Rattle.jr_flow_defs.specs.declared.point.PointKind.TheVariants as kind
use Rattle.jr_flow_defs.specs.Acts.{Completion, normally, by_break, by_continue, by_return, by_throw}
use Rattle.jr_flow_defs.specs.States.{Moment, before, completed, State}
use Rattle.jr_flow_defs.specs.Paths.{Flow}
use Rattle.jr_flow_defs.specs.Edges.{FlowNode, Naming, node_at}
use Rattle.jr_flow_defs.specs.Kept.{Within, outside, inside}

-- ---- what is the same

abbrev pub same_completion : Completion → Completion → Bool
same_completion normally normally = true
same_completion (by_break m) (by_break n) = nat_eq m n
same_completion (by_continue m) (by_continue n) = nat_eq m n
same_completion by_return by_return = true
same_completion by_throw by_throw = true
same_completion _ _ = false

abbrev pub same_moment : Moment → Moment → Bool
same_moment (before i) (before j) = nat_eq i j
same_moment (completed c) (completed d) = same_completion c d
same_moment _ _ = false

abbrev pub same_state : State → State → Bool
same_state a b = nat_eq a.row b.row && (same_moment a.moment b.moment && pointwise same_completion a.pending b.pending)

abbrev pub same_node : FlowNode → FlowNode → Bool
same_node FlowNode.entry FlowNode.entry = true
same_node FlowNode.exit FlowNode.exit = true
same_node (FlowNode.acting m) (FlowNode.acting n) = nat_eq m n
same_node _ _ = false

abbrev pub same_edge : FlowNode × FlowNode → FlowNode × FlowNode → Bool
same_edge a b = same_node a.0 b.0 && same_node a.1 b.1

abbrev pub same_within : Within → Within → Bool
same_within (outside a) (outside b) = same_state a b
same_within (inside a caller) (inside b other) = same_state a b && same_state caller other
same_within _ _ = false

-- ---- searches

-- the first ones, and what comes next to them in any number of turns
pub data Chain {A : Type 0} (next : A → List A) (first : List A) : A → Type 0 where
  begin : {a : A} → Contains first a → Chain next first a
  on : {a b : A} → Chain next first a → Contains (next a) b → Chain next first b

module _ {A : Type 0} (same : A → A → Bool) (next : A → List A) where
  -- what was found, with what is found from those that wait on
  abbrev pub search : ℕ → List A → List A → List A
  search zero found waiting = found
  search (suc rounds) found [] = found
  search (suc rounds) found (a ∷ waiting) = if among same found a then search rounds found waiting else search rounds (a ∷ found) (next a ++ waiting)

  -- nothing more is to be found
  abbrev pub is_closed : List A → List A → Bool
  is_closed first found = list_all (among same found) first && list_all (λ a. list_all (among same found) (next a)) found

-- ---- places of a flow

module _ {A : Type 0} (same : A → A → Bool) (f : Flow A) (rounds : ℕ) where
  abbrev pub targets : A → List A
  targets a = map (λ h. h.to) (f.hops a)

  -- what control comes to
  abbrev pub reached : List A
  reached = search same targets rounds [] (f.start ∷ [])

  abbrev pub unless : (A → Bool) → A → List A
  unless stops a = if stops a then [] else targets a

  -- the ends of the paths from a place with nothing between that stops them
  abbrev pub ends : (A → Bool) → A → List A
  ends stops a = search same (unless stops) rounds [] (targets a)

  abbrev pub are_ends : (A → Bool) → A → Bool
  are_ends stops a = is_closed same (unless stops) (targets a) (ends stops a)

  abbrev pub are_reached : Bool
  are_reached = is_closed same targets (f.start ∷ []) reached

-- ---- edges of control

abbrev pub is_inside : Rows → Option Point → Option Point → Bool
is_inside p (Some inner) (Some outer) = nat_lt outer.row inner.row && nat_lt inner.row (end p outer.row)
is_inside p _ _ = false

module _ {A : Type 0} (same : A → A → Bool) (f : Flow A) (rounds : ℕ) (p : Rows) (body : ℕ) (naming : Naming) where
  abbrev pub is_node : A → Bool
  is_node a = is_some (node_at f body naming a)

  -- the edge from x at a to y at b, unless both are one name
  abbrev pub edge : A → FlowNode → A → Option FlowNode → List (FlowNode × FlowNode)
  edge a x b None = []
  edge a x b (Some y) = if same_node x y && is_inside p (f.point a) (f.point b) then [] else (x, y) ∷ []

  abbrev pub edges_from : A → Option FlowNode → List (FlowNode × FlowNode)
  edges_from a None = []
  edges_from a (Some x) = flat_map (λ b. edge a x b (node_at f body naming b)) (ends same f rounds is_node a)

  abbrev pub control_edges : List (FlowNode × FlowNode)
  control_edges = flat_map (λ a. edges_from a (node_at f body naming a)) (reached same f rounds)

  -- all searches are done
  abbrev pub are_edges : Bool
  are_edges = are_reached same f rounds && list_all (are_ends same f rounds is_node) (reached same f rounds)

-- ---- from definitions to uses

abbrev pub is_definition : ℕ → PointKind → Bool
is_definition d (kind.Definition e) = nat_eq e d
is_definition d _ = false

abbrev pub defined_at : ℕ → Option Point → Bool
defined_at d (Some x) = is_definition d x.kind
defined_at d None = false

abbrev pub used_at : ℕ → ℕ → PointKind → List ℕ
used_at d j (kind.Use e) = if nat_eq e d then j ∷ [] else []
used_at d j _ = []

abbrev pub uses_at : ℕ → Option Point → List ℕ
uses_at d (Some x) = used_at d x.row x.kind
uses_at d None = []

module _ {A : Type 0} (same : A → A → Bool) (f : Flow A) (rounds : ℕ) where
  abbrev pub defines : ℕ → A → Bool
  defines d a = defined_at d (f.point a)

  -- from the definition of d at the row i and the place a
  abbrev pub uses_from : A → ℕ → PointKind → List (ℕ × ℕ)
  uses_from a i (kind.Definition d) = flat_map (λ b. map (λ j. (i, j)) (uses_at d (f.point b))) (ends same f rounds (defines d) a)
  uses_from a i _ = []

  abbrev pub uses_behind : A → Option Point → List (ℕ × ℕ)
  uses_behind a (Some x) = uses_from a x.row x.kind
  uses_behind a None = []

  abbrev pub def_uses : List (ℕ × ℕ)
  def_uses = flat_map (λ a. uses_behind a (f.point a)) (reached same f rounds)

  abbrev pub are_done : A → PointKind → Bool
  are_done a (kind.Definition d) = are_ends same f rounds (defines d) a
  are_done a _ = true

  abbrev pub are_done_at : A → Option Point → Bool
  are_done_at a (Some x) = are_done a x.kind
  are_done_at a None = true

  abbrev pub are_uses : Bool
  are_uses = are_reached same f rounds && list_all (λ a. are_done_at a (f.point a)) (reached same f rounds)
