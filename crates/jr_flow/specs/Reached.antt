-- Which definitions reach which uses, by the numbers of points.
use Rattle.std.specs.Prelude.{◌≡◌, ℕ, Bool, List, Option, Some, map, slice_get}
use Rattle.std.specs.List.{Contains}
use Rattle.jr_tree.specs.Rows.{Rows}
use Rattle.jr_flow_defs.specs.declared.point.Point.{Point}
use Rattle.jr_flow_defs.specs.declared.point.PointKind.TheVariants as kind
use Rattle.jr_flow_defs.specs.Meaning.{Meaning}
use Rattle.jr_flow_defs.specs.Edges.{point, body_flow, IsGraph, DefUse}
use Rattle.jr_flow_defs.specs.Graphs.{StepList, StepPath, PassesAt, is_definition_of, ReachesByNumbers}
use Rattle.jr_flow.specs.declared.point.Step as code_step
use Rattle.jr_flow.specs.declared.point.Graph as code

abbrev pub step_seen : code_step.Step → ℕ × ℕ × Bool
step_seen s = (s.from, s.to, s.is_throw)

abbrev pub steps_of : code.Graph → StepList
steps_of graph = map step_seen graph.steps.items

-- the graph is that of the body
abbrev pub IsGraphOf : Rows → Meaning → code.Graph → Type 0
IsGraphOf p m graph = IsGraph (body_flow p m graph.body) graph.body graph.points.items (steps_of graph)

-- steps lead from the point of the number i, a definition of a local, to that of the number j, a use of it, with no other definition of it between
pub record Reaches (points : List Point) (steps : StepList) (i j : ℕ) : Type 0 where
  pub local : ℕ
  pub from : ℕ
  pub to : ℕ
  pub defines : slice_get points i ≡ point from (kind.Definition local)
  pub uses : slice_get points j ≡ point to (kind.Use local)
  pub path : StepPath steps (PassesAt points (is_definition_of local)) i j

-- the pairs are those of which the first reaches the second
pub record AreReaching (points : List Point) (steps : StepList) (pairs : List (ℕ × ℕ)) : Type 0 where
  pub only : (i j : ℕ) → Contains pairs (i, j) → Reaches points steps i j
  pub every : (i j : ℕ) → Reaches points steps i j → Contains pairs (i, j)

-- one of the pairs is of points at these rows
pub record HasPair (points : List Point) (pairs : List (ℕ × ℕ)) (i j : ℕ) : Type 0 where
  pub local : ℕ
  pub from : ℕ
  pub to : ℕ
  pub pair : Contains pairs (from, to)
  pub defines : slice_get points from ≡ point i (kind.Definition local)
  pub uses : slice_get points to ≡ point j (kind.Use local)

-- by the pairs the definitions at rows reach the uses at rows that they reach in the flow of the body, and no others
abbrev pub AreDefUses : Rows → Meaning → code.Graph → List (ℕ × ℕ) → Type 0
AreDefUses p m graph pairs = (i j : ℕ) → (DefUse (body_flow p m graph.body) i j → HasPair graph.points.items pairs i j) × (HasPair graph.points.items pairs i j → DefUse (body_flow p m graph.body) i j)
