-- The flow of a body, its points and steps, edges of control, and edges from definitions to uses.
use Rattle.std.specs.Prelude.{◌≡◌, ℕ, zero, suc, ◌<◌, ◌≤◌, Bool, if◌then◌else◌, List, [], length, Option, Some, None, option_map, option_and_then, nat_eq, slice_get}
use Rattle.std.specs.List.{Contains}
use Rattle.jr_tree.specs.Rows.{Rows, end}
use Rattle.jr_flow_defs.specs.declared.point.Point.{Point}
use Rattle.jr_flow_defs.specs.declared.point.PointKind.{PointKind}
use Rattle.jr_flow_defs.specs.declared.point.PointKind.TheVariants as kind
use Rattle.jr_flow_defs.specs.Meaning.{Meaning}
use Rattle.jr_flow_defs.specs.Acts.{Completion, by_throw, Act, event, node, define, use_of, quit, fork, choose, jump, acts}
use Rattle.jr_flow_defs.specs.States.{Moment, before, completed, State, at, hops}
use Rattle.jr_flow_defs.specs.Paths.{Flow, IsReached, Path, Steps}

-- ---- points

abbrev pub point : ℕ → PointKind → Option Point
point n k = Some (record { row = n; kind = k })

-- what stands before an act of the row n: a part and a `go` are no points
abbrev pub act_point : ℕ → Option Act → Option Point
act_point n (Some (event k)) = point k kind.Node
act_point n (Some (node k)) = point k kind.Node
act_point n (Some (define k d)) = point k (kind.Definition d)
act_point n (Some (use_of k d)) = point k (kind.Use d)
act_point n (Some quit) = point n kind.Node
act_point n (Some (fork j)) = point n kind.Node
act_point n (Some (choose has_default)) = point n kind.Node
act_point n (Some (jump c)) = point n kind.Node
act_point n _ = None

-- how a body is left: a throw that nobody catches leaves it by itself (JLS 11.3)
abbrev pub exit_kind : Completion → PointKind
exit_kind by_throw = kind.Thrown
exit_kind _ = kind.Exit

-- at the row of the body stand its entry and its exits
abbrev pub point_by : Moment → Rows → Meaning → ℕ → ℕ → Option Point
point_by (before zero) p m body n = if nat_eq n body then point n kind.Entry else act_point n (slice_get (acts p m n) 0)
point_by (before (suc i)) p m body n = act_point n (slice_get (acts p m n) (suc i))
point_by (completed c) p m body n = if nat_eq n body then point n (exit_kind c) else None

-- the flow of the body that is declared at the row: a method, constructor, initializer or field
abbrev pub body_flow : Rows → Meaning → ℕ → Flow State
body_flow p m body = record { start = at body 0 []; hops = λ a. hops p m body a; point = λ a. point_by a.moment p m body a.row }

-- ---- the graph of a body, by numbers

-- the numbers of the entry and the exits of a body
abbrev pub own_number : PointKind → Option ℕ
own_number kind.Entry = Some 0
own_number kind.Exit = Some 1
own_number kind.Thrown = Some 2
own_number _ = None

-- point 0 is the entry, 1 the exit and 2 the exit by a throw; the others are those that control comes to, each with its number
pub record IsNumbering {A : Type 0} (f : Flow A) (body : ℕ) (points : List Point) (number : A → ℕ) : Type 0 where
  pub entry : slice_get points 0 ≡ point body kind.Entry
  pub exit : slice_get points 1 ≡ point body kind.Exit
  pub thrown : slice_get points 2 ≡ point body kind.Thrown
  pub own : (a : A) (k : ℕ) (x : Point) → IsReached f a → f.point a ≡ Some x → x.row ≡ body → own_number x.kind ≡ Some k → number a ≡ k
  pub stands : (a : A) (x : Point) → IsReached f a → f.point a ≡ Some x → slice_get points (number a) ≡ Some x
  pub apart : (a b : A) (x y : Point) → IsReached f a → f.point a ≡ Some x → IsReached f b → f.point b ≡ Some y → number a ≡ number b → a ≡ b
  pub all : (k : ℕ) → 3 ≤ k → k < length points → (a : A) × (x : Point) × IsReached f a × (f.point a ≡ Some x) × (number a ≡ k)

-- a step between the points of two numbers
pub record HasStep {A : Type 0} (f : Flow A) (number : A → ℕ) (i j : ℕ) (is_throw : Bool) : Type 0 where
  pub from : A
  pub to : A
  pub reached : IsReached f from
  pub numbers : (number from ≡ i) × (number to ≡ j)
  pub steps : Steps f from to is_throw

-- the points and steps of a flow, the steps by the numbers of their points and whether they are throws
pub record IsGraph {A : Type 0} (f : Flow A) (body : ℕ) (points : List Point) (steps : List (ℕ × ℕ × Bool)) : Type 0 where
  pub number : A → ℕ
  pub numbering : IsNumbering f body points number
  pub only : (i j : ℕ) (is_throw : Bool) → Contains steps (i, j, is_throw) → HasStep f number i j is_throw
  pub every : (i j : ℕ) (is_throw : Bool) → HasStep f number i j is_throw → Contains steps (i, j, is_throw)

-- control comes to more points than the limit
pub record HasMorePoints {A : Type 0} (f : Flow A) (limit : ℕ) : Type 0 where
  pub places : List A
  pub more : limit < length places
  pub apart : (i j : ℕ) (a : A) → slice_get places i ≡ Some a → slice_get places j ≡ Some a → i ≡ j
  pub reached : (a : A) → Contains places a → IsReached f a
  pub points : (a : A) → Contains places a → (x : Point) × (f.point a ≡ Some x)

-- ---- names of nodes

-- the nodes of a body: its entry, its exit by either way, and rows at which something acts
pub data FlowNode : Type 0 where
  entry : FlowNode
  exit : FlowNode
  acting : ℕ → FlowNode

-- names of rows; a node whose row has none is passed as if it were none
abbrev pub Naming : Type 0
Naming = ℕ → Option ℕ

abbrev pub named_by : PointKind → Naming → ℕ → Option FlowNode
named_by kind.Node naming n = option_map FlowNode.acting (naming n)
named_by _ naming n = None

-- the node of a point; definitions and uses are none, and neither are the entry and the exits of another body
abbrev pub own_by : PointKind → Option FlowNode
own_by kind.Entry = Some FlowNode.entry
own_by kind.Exit = Some FlowNode.exit
own_by kind.Thrown = Some FlowNode.exit
own_by _ = None

abbrev pub or_node : Option FlowNode → Option FlowNode → Option FlowNode
or_node (Some x) other = Some x
or_node None other = other

abbrev pub node_of_point : ℕ → Naming → Point → Option FlowNode
node_of_point body naming x = or_node (named_by x.kind naming x.row) (if nat_eq x.row body then own_by x.kind else None)

abbrev pub node_at : {A : Type 0} → Flow A → ℕ → Naming → A → Option FlowNode
node_at f body naming a = option_and_then (node_of_point body naming) (f.point a)

pub record IsNode {A : Type 0} (f : Flow A) (body : ℕ) (naming : Naming) (a : A) : Type 0 where
  pub node : FlowNode
  pub stands : node_at f body naming a ≡ Some node

-- ---- edges of control

-- the second row holds the first
pub record IsInside (p : Rows) (inner outer : Point) : Type 0 where
  pub behind : outer.row < inner.row
  pub within : inner.row < end p outer.row

-- from an identifier of a longer name to the whole of it: both are one node
pub record IsOneName {A : Type 0} (p : Rows) (f : Flow A) (x y : FlowNode) (a b : A) : Type 0 where
  pub same : x ≡ y
  pub inner : Point
  pub outer : Point
  pub first : f.point a ≡ Some inner
  pub second : f.point b ≡ Some outer
  pub inside : IsInside p inner outer

-- control goes from the node x to the node y, and passes no other node between
pub record ControlEdge {A : Type 0} (p : Rows) (f : Flow A) (body : ℕ) (naming : Naming) (x y : FlowNode) : Type 0 where
  pub from : A
  pub to : A
  pub reached : IsReached f from
  pub starts : node_at f body naming from ≡ Some x
  pub ends : node_at f body naming to ≡ Some y
  pub path : Path f (IsNode f body naming) from to
  pub apart : IsOneName p f x y from to → ⊥

-- ---- from definitions to uses

-- the local gets a value at the place
pub record Defines {A : Type 0} (f : Flow A) (d : ℕ) (a : A) : Type 0 where
  pub row : ℕ
  pub stands : f.point a ≡ point row (kind.Definition d)

-- the definition of a local at the row i reaches the use at the row j: a path leads there with no other definition of that local between
pub record DefUse {A : Type 0} (f : Flow A) (i j : ℕ) : Type 0 where
  pub local : ℕ
  pub from : A
  pub to : A
  pub reached : IsReached f from
  pub defines : f.point from ≡ point i (kind.Definition local)
  pub uses : f.point to ≡ point j (kind.Use local)
  pub path : Path f (Defines f local) from to
