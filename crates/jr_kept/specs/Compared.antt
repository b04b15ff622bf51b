-- Edges of control that stand on both sides of a change, by numbers.
use Rattle.std.specs.Prelude.{◌≡◌, ℕ, ◌<◌, ◌^◌, length}
use Rattle.jr_flow_defs.specs.Meaning.{Meaning}
use Rattle.jr_flow_defs.specs.Paths.{Flow}
use Rattle.jr_flow_defs.specs.Edges.{FlowNode, IsGraph, body_flow}
use Rattle.jr_flow_defs.specs.Graphs.{StepList, EdgeByNumbers}
use Rattle.jr_flow_defs.specs.Kept.{Same, KeepsControl, KeepsDefinitions, KeepsBody, Hands, IsHanding, IsLost, joined_flow}
use Rattle.jr_tree.specs.Rows.{Rows}
use Rattle.jr_tree.specs.Tree.{IsTree}
use Rattle.jr_flow.specs.declared.point.Graph as code
use Rattle.jr_flow.specs.Reached.{steps_of, IsGraphOf}
use Rattle.jr_kept.specs.declared.flows.Flows.{Flows}
use Rattle.jr_kept.specs.declared.control.Searches.{Searches}
use Rattle.jr_kept.specs.declared.search.Side.{Side}
use Rattle.jr_kept.specs.Named.{origin_in, old_naming, new_naming}
use Rattle.jr_kept.specs.Copied.{HasEventsOnce}
use Rattle.jr_kept.specs.Returned.{ReturnAtOnce}
use Rattle.jr_kept.specs.Searched.{SideEdge, IsReady}

-- edges lead from the name to the same names on both sides
abbrev pub SameFrom : Side → StepList → Side → StepList → ℕ → Type 0
SameFrom old s new t x = (y : ℕ) → (SideEdge old s x y → SideEdge new t x y) × (SideEdge new t x y → SideEdge old s x y)

abbrev pub SameNames : Side → StepList → Side → StepList → ℕ → Type 0
SameNames old s new t count = (x : ℕ) → x < count → SameFrom old s new t x

pub record AreReady (searches : Searches) (old new : Side) (count : ℕ) : Type 0 where
  pub before : IsReady searches.before old count
  pub after : IsReady searches.after new count

-- edges of control, by the graphs alone
abbrev pub OldEdge : Flows → FlowNode → FlowNode → Type 0
OldEdge flows x y = EdgeByNumbers flows.names.rows.now flows.before.now.body (old_naming flows.names) flows.before.now.points.items (steps_of flows.before.now) x y

abbrev pub NewEdge : Flows → FlowNode → FlowNode → Type 0
NewEdge flows x y = EdgeByNumbers flows.rows.now flows.after.now.body (new_naming flows.names flows.origin.now) flows.after.now.points.items (steps_of flows.after.now) x y

-- the graphs have the same edges of control, and each event of the old one has one copy
pub record KeepsByNumbers (flows : Flows) : Type 0 where
  pub once : HasEventsOnce flows.names.rows.now flows.names.dropped (origin_in flows.origin.now) flows.before.now.points.items
  pub same : Same (OldEdge flows) (NewEdge flows)

-- the two flows keep control, by the definition
abbrev pub KeepsFlows : {A B : Type 0} → Flows → Flow A → Flow B → Type 0
KeepsFlows flows f g = KeepsControl flows.names.rows.now flows.rows.now f g flows.before.now.body flows.after.now.body flows.names.dropped (origin_in flows.origin.now)

-- a body and what it has become
abbrev pub KeepsBodies : Flows → Meaning → Meaning → Type 0
KeepsBodies flows m w = KeepsFlows flows (body_flow flows.names.rows.now m flows.before.now.body) (body_flow flows.rows.now w flows.after.now.body)

-- and they keep edges from definitions to uses too
abbrev pub KeepsWholeBodies : Flows → Meaning → Meaning → Type 0
KeepsWholeBodies flows m w = KeepsBody flows.names.rows.now flows.rows.now (body_flow flows.names.rows.now m flows.before.now.body) (body_flow flows.rows.now w flows.after.now.body)
    flows.before.now.body flows.after.now.body flows.names.dropped (origin_in flows.origin.now)

-- a body and what it has become, with a method in place of its call
abbrev pub KeepsJoined : Flows → Meaning → Meaning → ℕ → ℕ → Type 0
KeepsJoined flows m w call method = KeepsFlows flows (body_flow flows.names.rows.now m flows.before.now.body) (joined_flow flows.rows.now w flows.after.now.body call method)

abbrev pub IsJoinedGraph : Flows → Meaning → ℕ → ℕ → Type 0
IsJoinedGraph flows w call method = IsGraph (joined_flow flows.rows.now w flows.after.now.body call method) flows.after.now.body flows.after.now.points.items (steps_of flows.after.now)

-- and they keep edges from definitions to uses too, where parameters and what the call is assigned to hand on
abbrev pub KeepsJoinedUses : Flows → Meaning → Meaning → ℕ → ℕ → Type 0
KeepsJoinedUses flows m w call method = let g = joined_flow flows.rows.now w flows.after.now.body call method in
    KeepsDefinitions (body_flow flows.names.rows.now m flows.before.now.body) g (IsHanding flows.rows.now g call method) (Hands flows.rows.now g call method (origin_in flows.origin.now)) (origin_in flows.origin.now)

-- the graph is that of the method by itself
abbrev pub IsMethodGraph : Rows → Meaning → code.Graph → ℕ → Type 0
IsMethodGraph q w inner method = (inner.body ≡ method) × IsGraphOf q w inner

-- and no value that a local gets in the method is lost
abbrev pub KeepsJoinedValues : Flows → Meaning → ℕ → ℕ → Type 0
KeepsJoinedValues flows w call method = IsLost flows.rows.now w (joined_flow flows.rows.now w flows.after.now.body call method) call method (origin_in flows.origin.now) → ⊥

-- the old graph is that of a body in the rows of a tree
pub record IsOldBody (flows : Flows) : Type 0 where
  pub tree : IsTree flows.names.rows.now
  pub few : length flows.names.rows.now < 2 ^ 32
  pub row : flows.names.body < length flows.names.rows.now
  pub same : flows.before.now.body ≡ flows.names.body

-- and each `return` that has a copy in the method leaves the old body at once
abbrev pub KeepsJoinedReturns : Flows → Meaning → ℕ → Type 0
KeepsJoinedReturns flows m method = ReturnAtOnce flows.names.rows.now flows.rows.now m flows.names.body method (origin_in flows.origin.now)
