-- Paths over the numbers of points.
use Rattle.std.specs.Prelude.{◌≡◌, ℕ, Bool, true, List, Some, is_some, slice_get}
use Rattle.std.specs.List.{Contains}
use Rattle.jr_tree.specs.Rows.{Rows}
use Rattle.jr_flow_defs.specs.declared.point.Point.{Point}
use Rattle.jr_flow_defs.specs.declared.point.PointKind.TheVariants as kind
use Rattle.jr_flow_defs.specs.Paths.{Flow, IsReached, Path, IsPoint}
use Rattle.jr_flow_defs.specs.Edges.{point, IsGraph, FlowNode, Naming, node_of_point, IsInside, ControlEdge, DefUse}
use Rattle.jr_flow_defs.specs.Computed.{is_definition}

abbrev pub StepList : Type 0
StepList = List (ℕ × ℕ × Bool)

-- a path of one step or more from the point i, with nothing between its ends that stops it
pub data StepPath (steps : StepList) (Stops : ℕ → Type 0) (i : ℕ) : ℕ → Type 0 where
  step : {j : ℕ} (is_throw : Bool) → Contains steps (i, j, is_throw) → StepPath steps Stops i j
  on : {k j : ℕ} (is_throw : Bool) → StepPath steps Stops i k → (Stops k → ⊥) → Contains steps (k, j, is_throw) → StepPath steps Stops i j

-- the point of the number is one that stops
pub record StopsAt {A : Type 0} (f : Flow A) (number : A → ℕ) (stops : A → Bool) (k : ℕ) : Type 0 where
  pub at : A
  pub reached : IsReached f at
  pub point : IsPoint f at
  pub numbered : number at ≡ k
  pub stop : stops at ≡ true

-- the law: where points alone stop, a path from point to point is one over their numbers
abbrev pub PathsGoByNumbers : {A : Type 0} → Flow A → ℕ → Type 0
PathsGoByNumbers {A} f body = (points : List Point) (steps : StepList) (g : IsGraph f body points steps) (stops : A → Bool)
    → ((a : A) → stops a ≡ true → IsPoint f a) → (a b : A) → IsReached f a → IsPoint f a → IsReached f b → IsPoint f b
    → (Path f (λ x. stops x ≡ true) a b → StepPath steps (StopsAt f g.number stops) (g.number a) (g.number b))
    × (StepPath steps (StopsAt f g.number stops) (g.number a) (g.number b) → Path f (λ x. stops x ≡ true) a b)

-- ---- edges by the graph alone

-- the point of the number passes a test
pub record PassesAt (points : List Point) (test : Point → Bool) (k : ℕ) : Type 0 where
  pub point : Point
  pub stands : slice_get points k ≡ Some point
  pub passes : test point ≡ true

abbrev pub is_definition_of : ℕ → Point → Bool
is_definition_of local x = is_definition local x.kind

-- by numbers: steps lead from a definition of a local at the row i to a use at the row j with no other definition of that local between
pub record ReachesByNumbers (points : List Point) (steps : StepList) (i j : ℕ) : Type 0 where
  pub local : ℕ
  pub from : ℕ
  pub to : ℕ
  pub defines : slice_get points from ≡ point i (kind.Definition local)
  pub uses : slice_get points to ≡ point j (kind.Use local)
  pub path : StepPath steps (PassesAt points (is_definition_of local)) from to

-- the law: what reaches what is told by the graph alone
abbrev pub ReachingGoesByNumbers : {A : Type 0} → Flow A → ℕ → Type 0
ReachingGoesByNumbers f body = (points : List Point) (steps : StepList) → IsGraph f body points steps
    → (i j : ℕ) → (DefUse f i j → ReachesByNumbers points steps i j) × (ReachesByNumbers points steps i j → DefUse f i j)

abbrev pub is_node_point : ℕ → Naming → Point → Bool
is_node_point body naming x = is_some (node_of_point body naming x)

-- by numbers: steps lead from the node x to the node y with no node between
pub record EdgeByNumbers (p : Rows) (body : ℕ) (naming : Naming) (points : List Point) (steps : StepList) (x y : FlowNode) : Type 0 where
  pub from : ℕ
  pub to : ℕ
  pub first : Point
  pub second : Point
  pub from_stands : slice_get points from ≡ Some first
  pub to_stands : slice_get points to ≡ Some second
  pub starts : node_of_point body naming first ≡ Some x
  pub ends : node_of_point body naming second ≡ Some y
  pub path : StepPath steps (PassesAt points (is_node_point body naming)) from to
  pub apart : (x ≡ y) × IsInside p first second → ⊥

-- the law: so are edges of control
abbrev pub EdgesGoByNumbers : {A : Type 0} → Rows → Flow A → ℕ → Type 0
EdgesGoByNumbers p f body = (points : List Point) (steps : StepList) → IsGraph f body points steps → (naming : Naming)
    → (x y : FlowNode) → (ControlEdge p f body naming x y → EdgeByNumbers p body naming points steps x y) × (EdgeByNumbers p body naming points steps x y → ControlEdge p f body naming x y)
