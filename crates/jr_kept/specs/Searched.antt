-- Edges between named points, and the search for those from one point.
use Rattle.std.specs.Prelude.{◌≡◌, ◌⊎◌, ℕ, ◌<◌, ◌≤◌, Bool, true, false, ◌&&◌, List, length, min, Option, Some, None, IfSome, IfNone, nat_eq, slice_get, slice_index_or}
use Rattle.std.specs.List.{Contains}
use Rattle.jr_tree.specs.Rows.{Rows}
use Rattle.jr_places.specs.declared.stamps.Stamps.{Stamps}
use Rattle.jr_places.specs.Stamps.{is_stamped, IsStamping}
use Rattle.jr_flow_defs.specs.declared.point.Point.{Point}
use Rattle.jr_flow_defs.specs.Graphs.{StepList, StepPath}
use Rattle.jr_flow_defs.specs.Computed.{is_inside}
use Rattle.jr_flow.specs.declared.point.Step as code_step
use Rattle.jr_flow.specs.declared.point.Graph as code_graph
use Rattle.jr_flow.specs.Reached.{steps_of}
use Rattle.jr_kept.specs.declared.lists.Lists.{Lists}
use Rattle.jr_kept.specs.declared.search.Targets.{Targets}
use Rattle.jr_kept.specs.declared.search.Side.{Side}
use Rattle.jr_kept.specs.declared.search.Search.{Search}
use Rattle.jr_kept.specs.Listed.{under_in}
use Rattle.jr_kept.specs.Named.{no_name}

abbrev pub ends_of : code_step.Step → ℕ × ℕ
ends_of s = (s.from, s.to)

-- a step leads from the one point to the other, by a throw or not
abbrev pub HasStepTo : StepList → ℕ → ℕ → Type 0
HasStepTo steps i j = (t : Bool) × Contains steps (i, j, t)

-- under each point stand those to which steps lead
abbrev pub AreWays : Lists → ℕ → StepList → Type 0
AreWays ways count steps = (i j : ℕ) → i < count → (Contains (under_in ways i) j → HasStepTo steps i j) × (HasStepTo steps i j → Contains (under_in ways i) j)

-- each step is between two of so many points
abbrev pub AreWithin : ℕ → StepList → Type 0
AreWithin count steps = (i j : ℕ) (t : Bool) → Contains steps (i, j, t) → (i < count) × (j < count)

-- ---- edges by names

abbrev pub name_in : List ℕ → ℕ → ℕ
name_in names k = slice_index_or names k no_name

-- the point has a name
pub record IsNamed (names : List ℕ) (k : ℕ) : Type 0 where
  pub name : ℕ
  pub has : slice_get names k ≡ Some name
  pub known : name ≡ no_name → ⊥

-- from a part of a longer name to the whole: they are one node
abbrev pub is_one_node : Rows → List Point → List ℕ → ℕ → ℕ → Bool
is_one_node p points names i j = nat_eq (name_in names i) (name_in names j) && is_inside p (slice_get points i) (slice_get points j)

-- steps lead from the point to one of the name, with no named point between
pub record EdgeFrom (p : Rows) (points : List Point) (names : List ℕ) (steps : StepList) (from y : ℕ) : Type 0 where
  pub to : ℕ
  pub ends : slice_get names to ≡ Some y
  pub known : y ≡ no_name → ⊥
  pub path : StepPath steps (λ k. IsNamed names k) from to
  pub apart : is_one_node p points names from to ≡ false

pub record EdgeByNames (p : Rows) (points : List Point) (names : List ℕ) (steps : StepList) (x y : ℕ) : Type 0 where
  pub from : ℕ
  pub starts : slice_get names from ≡ Some x
  pub edge : EdgeFrom p points names steps from y

-- ---- a graph in code

-- the pairs are those of a name and the first so many points that have it
abbrev pub ArePairs : List ℕ → List (ℕ × ℕ) → ℕ → Type 0
ArePairs names pairs i = (c k : ℕ) → (Contains pairs (c, k) → slice_get names k ≡ Some c) × (k < i → slice_get names k ≡ Some c → Contains pairs (c, k))

-- under each of so many names stand the points that have it
abbrev pub AreByName : Lists → ℕ → List ℕ → Type 0
AreByName lists count names = (c k : ℕ) → c < count → (Contains (under_in lists c) k → slice_get names k ≡ Some c) × (slice_get names k ≡ Some c → Contains (under_in lists c) k)

abbrev pub AreFew : List ℕ → ℕ → Type 0
AreFew names count = (k c : ℕ) → slice_get names k ≡ Some c → (c ≡ no_name → ⊥) → c < count

-- its names, the points of each, and the ways between points
pub record IsSide (side : Side) (count : ℕ) (steps : StepList) : Type 0 where
  pub size : length side.names.items ≡ length side.points.now
  pub few : AreFew side.names.items count
  pub bound : count ≤ no_name
  pub ways : AreWays side.ways (length side.points.now) steps
  pub named : AreByName side.named count side.names.items
  pub within : AreWithin (length side.points.now) steps

-- the side is that of a graph over rows, by these names
pub record IsSideOf (side : Side) (p : Rows) (graph : code_graph.Graph) (names : List ℕ) (count : ℕ) : Type 0 where
  pub of_rows : side.rows.now ≡ p
  pub of_points : side.points.now ≡ graph.points.items
  pub of_names : side.names.items ≡ names
  pub is_side : IsSide side count (steps_of graph)

abbrev pub SideEdgeFrom : Side → StepList → ℕ → ℕ → Type 0
SideEdgeFrom side steps from y = EdgeFrom side.rows.now side.points.now side.names.items steps from y

abbrev pub SideEdge : Side → StepList → ℕ → ℕ → Type 0
SideEdge side steps x y = EdgeByNames side.rows.now side.points.now side.names.items steps x y

-- ---- the search

-- numbers below a bound, each once, with the set of them
pub record IsTargets (targets : Targets) (count : ℕ) : Type 0 where
  pub counted : IsStamping targets.met count
  pub met : (y : ℕ) → is_stamped targets.met y ≡ true → Contains targets.all.items y
  pub listed : (y : ℕ) → Contains targets.all.items y → is_stamped targets.met y ≡ true

-- the lesser of a name and the least so far, unless it is there
abbrev pub least_with : Option ℕ → ℕ → Bool → Option ℕ
least_with least name true = least
least_with (Some known) name false = Some (min name known)
least_with None name false = Some name

-- the least of those that are not there, of some of all
pub record IsLeast (there : Stamps) (all done : List ℕ) (least : Option ℕ) : Type 0 where
  pub none : IfNone least ((y : ℕ) → Contains done y → is_stamped there y ≡ true)
  pub some : IfSome least (λ y. Contains all y × (is_stamped there y ≡ false))

-- one number more
pub record AddsTarget (old new : Targets) (y : ℕ) : Type 0 where
  pub out : (z : ℕ) → Contains new.all.items z → Contains old.all.items z ⊎ (y ≡ z)
  pub kept : (z : ℕ) → Contains old.all.items z → Contains new.all.items z
  pub here : Contains new.all.items y

abbrev pub IsMetOrOpen : Stamps → List ℕ → ℕ → Type 0
IsMetOrOpen met waiting k = (is_stamped met k ≡ true) ⊎ Contains waiting k

-- the search from a point, with the names that were found before and those that are found now
pub record IsSearching (p : Rows) (points : List Point) (names : List ℕ) (steps : StepList) (from : ℕ) (old : List ℕ) (met : Stamps) (waiting found : List ℕ) : Type 0 where
  pub counted : IsStamping met (length points)
  pub passed : (k r : ℕ) (t : Bool) → is_stamped met k ≡ true → (IsNamed names k → ⊥) → Contains steps (k, r, t) → IsMetOrOpen met waiting r
  pub begun : (r : ℕ) (t : Bool) → Contains steps (from, r, t) → IsMetOrOpen met waiting r
  pub leads : (o : ℕ) → Contains waiting o → StepPath steps (λ k. IsNamed names k) from o
  pub reached : (k y : ℕ) → is_stamped met k ≡ true → slice_get names k ≡ Some y → (y ≡ no_name → ⊥) → is_one_node p points names from k ≡ false → Contains found y
  pub sound : (y : ℕ) → Contains found y → Contains old y ⊎ EdgeFrom p points names steps from y
  pub kept : (y : ℕ) → Contains old y → Contains found y

abbrev pub IsSearchOf : Search → Side → StepList → ℕ → List ℕ → Type 0
IsSearchOf search side steps from old = IsSearching side.rows.now side.points.now side.names.items steps from old search.met search.waiting.items search.targets.all.items

-- all names to which edges lead from the point are found, and those of before
pub record FindsFrom (side : Side) (steps : StepList) (from : ℕ) (old new : List ℕ) : Type 0 where
  pub every : (y : ℕ) → SideEdgeFrom side steps from y → Contains new y
  pub sound : (y : ℕ) → Contains new y → Contains old y ⊎ SideEdgeFrom side steps from y
  pub kept : (y : ℕ) → Contains old y → Contains new y

-- a search through so many points with so many names can begin
pub record CanSearch (search : Search) (points count : ℕ) : Type 0 where
  pub counted : IsStamping search.met points
  pub targets : IsTargets search.targets count

-- the search can go through a side of so many names
abbrev pub IsReady : Search → Side → ℕ → Type 0
IsReady search side count = CanSearch search (length side.points.now) count

-- all names to which edges lead from some of the points are found, and those of before
pub record FindsFromAll (side : Side) (steps : StepList) (all old new : List ℕ) : Type 0 where
  pub every : (from y : ℕ) → Contains all from → SideEdgeFrom side steps from y → Contains new y
  pub sound : (y : ℕ) → Contains new y → Contains old y ⊎ ((from : ℕ) × Contains all from × SideEdgeFrom side steps from y)
  pub kept : (y : ℕ) → Contains old y → Contains new y

-- just those names are found to which edges lead from the name
pub record HasFound (search : Search) (side : Side) (steps : StepList) (count x : ℕ) : Type 0 where
  pub ready : IsReady search side count
  pub every : (y : ℕ) → SideEdge side steps x y → Contains search.targets.all.items y
  pub sound : (y : ℕ) → Contains search.targets.all.items y → SideEdge side steps x y
