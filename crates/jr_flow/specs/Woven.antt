-- The locals of a graph, and its points and steps by number.
use Rattle.std.specs.Prelude.{◌≡◌, ◌⊎◌, ℕ, ◌+◌, ◌<◌, ◌≤◌, Bool, true, false, if◌then◌else◌, List, [], ◌∷◌, map, length, Option, Some, None, nat_eq, slice_get}
use Rattle.std.specs.HashMap.{get}
use Rattle.std.specs.List.{Contains}
use Rattle.jr_places.specs.declared.stamps.Stamps.{Stamps}
use Rattle.jr_places.specs.Stamps.{is_stamped, IsStamping}
use Rattle.jr_flow_defs.specs.declared.point.Point.{Point}
use Rattle.jr_flow_defs.specs.declared.point.PointKind.{PointKind}
use Rattle.jr_flow_defs.specs.declared.point.PointKind.TheVariants as kind
use Rattle.jr_flow_defs.specs.Edges.{point}
use Rattle.jr_flow_defs.specs.Graphs.{StepList}
use Rattle.jr_flow.specs.declared.point.Step as code_step
use Rattle.jr_flow.specs.declared.links.Links.{Links}
use Rattle.jr_flow.specs.declared.locals.Locals.{Locals}
use Rattle.jr_flow.specs.declared.webs.Web.{Web}
use Rattle.jr_flow.specs.declared.webs.Finder.{Finder}
use Rattle.jr_flow.specs.Linked.{items_in, first_of, AreLinked}
use Rattle.jr_flow.specs.Spread.{lets, HasCome}
use Rattle.jr_flow.specs.Reached.{step_seen, Reaches}

-- ---- locals by number

abbrev pub rows_of : Locals → List ℕ
rows_of locals = locals.rows.items

abbrev pub definitions_of : Locals → List (ℕ × ℕ)
definitions_of locals = locals.definitions.items

abbrev pub uses_of : Locals → List (ℕ × ℕ)
uses_of locals = locals.uses.items

-- the number that a local has by the table
abbrev pub number_of : Locals → ℕ → Option ℕ
number_of locals d = get nat_eq locals.numbers d

-- the table has the number of each local
pub record AreNumbered (locals : Locals) : Type 0 where
  pub stands : (d n : ℕ) → number_of locals d ≡ Some n → slice_get (rows_of locals) n ≡ Some d
  pub known : (d n : ℕ) → slice_get (rows_of locals) n ≡ Some d → number_of locals d ≡ Some n

abbrev pub KeepsRows : List ℕ → List ℕ → Type 0
KeepsRows old new = (n d : ℕ) → slice_get old n ≡ Some d → slice_get new n ≡ Some d

-- the local has this number
pub record HasLocal (old new : Locals) (local n : ℕ) : Type 0 where
  pub right : AreNumbered new
  pub kept : KeepsRows (rows_of old) (rows_of new)
  pub stands : slice_get (rows_of new) n ≡ Some local
  pub definitions : definitions_of new ≡ definitions_of old
  pub uses : uses_of new ≡ uses_of old

-- ---- what defines and uses each

-- the point is of this kind for the local of the number
pub record IsFor (of : ℕ → PointKind) (points : List Point) (rows : List ℕ) (n i : ℕ) : Type 0 where
  pub local : ℕ
  pub row : ℕ
  pub is : slice_get rows n ≡ Some local
  pub stands : slice_get points i ≡ point row (of local)

-- the pairs are of a local and a point of this kind for it, and have those among the first points
pub record AreListed (of : ℕ → PointKind) (points : List Point) (count : ℕ) (rows : List ℕ) (pairs : List (ℕ × ℕ)) : Type 0 where
  pub only : (n i : ℕ) → Contains pairs (n, i) → IsFor of points rows n i
  pub every : (i row local : ℕ) → i < count → slice_get points i ≡ point row (of local) → (n : ℕ) × (slice_get rows n ≡ Some local) × Contains pairs (n, i)

pub record AreLocals (points : List Point) (count : ℕ) (locals : Locals) : Type 0 where
  pub numbered : AreNumbered locals
  pub definitions : AreListed kind.Definition points count (rows_of locals) (definitions_of locals)
  pub uses : AreListed kind.Use points count (rows_of locals) (uses_of locals)

-- ---- steps by number

abbrev pub pair_behind : code_step.Step → ℕ × ℕ
pair_behind s = (s.from, s.to)

abbrev pub pair_before : code_step.Step → ℕ × ℕ
pair_before s = (s.to, s.from)

pub record IsWeb (definitions uses : List (ℕ × ℕ)) (steps : List code_step.Step) (web : Web) : Type 0 where
  pub definitions_are : AreLinked definitions web.definitions
  pub uses_are : AreLinked uses web.uses
  pub behind_are : AreLinked (map pair_behind steps) web.behind
  pub before_are : AreLinked (map pair_before steps) web.before

-- all numbers are below the bound
pub record IsBound (points : List Point) (steps : List code_step.Step) (bound : ℕ) : Type 0 where
  pub points_are : length points ≤ bound
  pub steps_are : (k : ℕ) (s : code_step.Step) → slice_get steps k ≡ Some s → (s.from < bound) × (s.to < bound)

-- ---- the search

-- the set has the items of the list of a number that stand before one
pub record HasBefore (bound : ℕ) (all : List (ℕ × ℕ)) (links : Links) (key stop : ℕ) (set : Stamps) : Type 0 where
  pub counted : IsStamping set bound
  pub only : (x : ℕ) → is_stamped set x ≡ true → Contains all (key, x)
  pub has : (i x : ℕ) → first_of links key ≤ i → i < stop → slice_get (items_in links) i ≡ Some x → x < bound → is_stamped set x ≡ true

-- the set has all of them
pub record HasList (bound : ℕ) (all : List (ℕ × ℕ)) (key : ℕ) (set : Stamps) : Type 0 where
  pub counted : IsStamping set bound
  pub only : (x : ℕ) → is_stamped set x ≡ true → Contains all (key, x)
  pub every : (x : ℕ) → Contains all (key, x) → x < bound → is_stamped set x ≡ true

abbrev pub is_use_by : ℕ → PointKind → Bool
is_use_by local (kind.Use d) = nat_eq d local
is_use_by local _ = false

-- a use of the local stands there
abbrev pub is_use : ℕ → Option Point → Bool
is_use local (Some x) = is_use_by local x.kind
is_use local None = false

abbrev pub pairs_in : Finder → List (ℕ × ℕ)
pairs_in finder = finder.pairs.items

-- the uses among the first of the numbers are noted with the definition
pub record NotesUses (points : List Point) (local definition : ℕ) (all : List ℕ) (count : ℕ) (old new : List (ℕ × ℕ)) : Type 0 where
  pub kept : (x : ℕ × ℕ) → Contains old x → Contains new x
  pub only : (i j : ℕ) → Contains new (i, j) → Contains old (i, j) ⊎ ((definition ≡ i) × Contains all j × (is_use local (slice_get points j) ≡ true))
  pub every : (k j : ℕ) → k < count → slice_get all k ≡ Some j → is_use local (slice_get points j) ≡ true → Contains new (definition, j)

-- what the definitions reach is noted, of which this is told
pub record AreFound (points : List Point) (steps : StepList) (are : ℕ → ℕ → Type 0) (old new : List (ℕ × ℕ)) : Type 0 where
  pub kept : (x : ℕ × ℕ) → Contains old x → Contains new x
  pub only : (i j : ℕ) → Contains new (i, j) → Contains old (i, j) ⊎ Reaches points steps i j
  pub every : (i j : ℕ) (r : Reaches points steps i j) → are i r.local → Contains new (i, j)

-- the definition of a local at this point
abbrev pub of_definition : ℕ → ℕ → ℕ → ℕ → Type 0
of_definition definition local i d = (definition ≡ i) × (local ≡ d)

-- the definitions in the list of a local that stand before an item
abbrev pub of_list : Links → ℕ → ℕ → ℕ → ℕ → ℕ → Type 0
of_list links key stop local i d = ((k : ℕ) × (first_of links key ≤ k) × (k < stop) × (slice_get (items_in links) k ≡ Some i)) × (local ≡ d)

abbrev pub of_local : ℕ → ℕ → ℕ → Type 0
of_local local i d = local ≡ d

-- those of the first locals
abbrev pub of_first : List ℕ → ℕ → ℕ → ℕ → Type 0
of_first rows count i d = (n : ℕ) × (n < count) × (slice_get rows n ≡ Some d)

-- the sets are of numbers below the bound
pub record IsFinder (bound : ℕ) (finder : Finder) : Type 0 where
  pub walls : IsStamping finder.walls bound
  pub live : IsStamping finder.live.met bound
  pub behind : IsStamping finder.behind.met bound

-- the lists are those of the points and steps
pub record IsWovenOf (points : List Point) (steps : List code_step.Step) (rows : List ℕ) (web : Web) : Type 0 where
  pub definitions : List (ℕ × ℕ)
  pub uses : List (ℕ × ℕ)
  pub definitions_are : AreListed kind.Definition points (length points) rows definitions
  pub uses_are : AreListed kind.Use points (length points) rows uses
  pub once : (n m d : ℕ) → slice_get rows n ≡ Some d → slice_get rows m ≡ Some d → n ≡ m
  pub web_is : IsWeb definitions uses steps web

-- what is live for the local of a number is found
pub record HasLive (bound : ℕ) (definitions uses : List (ℕ × ℕ)) (steps : List code_step.Step) (key : ℕ) (finder : Finder) : Type 0 where
  pub walls : HasList bound definitions key finder.walls
  pub live : HasCome bound (lets finder.walls false) uses key (map pair_before steps) finder.live
  pub behind : IsStamping finder.behind.met bound

-- so it still is, and the uses are noted that the definitions reach
pub record Follows (bound : ℕ) (definitions uses : List (ℕ × ℕ)) (points : List Point) (steps : List code_step.Step) (key : ℕ) (are : ℕ → ℕ → Type 0) (old new : Finder) : Type 0 where
  pub live : HasLive bound definitions uses steps key new
  pub found : AreFound points (map step_seen steps) are (pairs_in old) (pairs_in new)

pub record Finds (bound : ℕ) (points : List Point) (steps : List code_step.Step) (are : ℕ → ℕ → Type 0) (old new : Finder) : Type 0 where
  pub is : IsFinder bound new
  pub found : AreFound points (map step_seen steps) are (pairs_in old) (pairs_in new)
