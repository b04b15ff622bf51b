-- Names of nodes as numbers.
use Rattle.std.specs.Prelude.{◌≡◌, ℕ, zero, suc, ◌+◌, ◌<◌, if◌then◌else◌, List, length, Option, Some, None, nat_eq, slice_get}
use Rattle.jr_locks.specs.Origins.{origin_of, row_by}
use Rattle.jr_flow_defs.specs.declared.point.Point.{Point}
use Rattle.jr_flow_defs.specs.Edges.{FlowNode, Naming, node_of_point}
use Rattle.jr_flow_defs.specs.Kept.{Origin, old_name, new_name}
use Rattle.jr_kept.specs.declared.names.Names.{Names}

-- the name of what is no node, or of one that is passed over
abbrev pub no_name : ℕ
no_name = 4294967295

-- the entry, the exit, and then the rows of the body
abbrev pub node_of_number : ℕ → ℕ → FlowNode
node_of_number body zero = FlowNode.entry
node_of_number body (suc zero) = FlowNode.exit
node_of_number body (suc (suc n)) = FlowNode.acting (body + n)

abbrev pub node_by : ℕ → ℕ → Option FlowNode
node_by body c = if nat_eq c no_name then None else Some (node_of_number body c)

-- the number, one of so many, is the name of the node, if it is one
pub record IsNameOf (body count c : ℕ) (node : Option FlowNode) : Type 0 where
  pub is : node_by body c ≡ node
  pub few : (c ≡ no_name → ⊥) → c < count

-- the numbers are the names of the nodes of points, in the flow of the body that is declared at the row
pub record AreNames (body count : ℕ) (naming : Naming) (at : ℕ) (points : List Point) (names : List ℕ) : Type 0 where
  pub size : length names ≡ length points
  pub named : (k : ℕ) (x : Point) (c : ℕ) → slice_get points k ≡ Some x → slice_get names k ≡ Some c → IsNameOf body count c (node_of_point at naming x)

abbrev pub origin_in : List ℕ → Origin
origin_in origin n = row_by (origin_of origin n)

abbrev pub old_naming : Names → Naming
old_naming names n = old_name names.rows.now names.dropped n

abbrev pub new_naming : Names → List ℕ → Naming
new_naming names origin n = new_name names.rows.now names.dropped (origin_in origin) n
