-- Values that locals of a method have where it is left, and uses of other copies of these locals behind the call, by the numbers of points.
use Rattle.std.specs.Prelude.{◌≡◌, ◌⊎◌, ℕ, ◌<◌, ◌≤◌, Bool, true, false, not, ◌&&◌, if◌then◌else◌, List, [], ◌∷◌, ◌++◌, length, Option, Some, None, is_some, nat_eq, nat_lt, slice_get}
use Rattle.std.specs.List.{Contains}
use Rattle.jr_flow_defs.specs.declared.point.Point.{Point}
use Rattle.jr_flow_defs.specs.declared.point.PointKind.{PointKind}
use Rattle.jr_flow_defs.specs.declared.point.PointKind.TheVariants as kind
use Rattle.jr_flow_defs.specs.Edges.{point}
use Rattle.jr_flow_defs.specs.Graphs.{StepList, StepPath, PassesAt, is_definition_of}
use Rattle.jr_flow.specs.declared.point.Graph as code
use Rattle.jr_flow.specs.declared.point.Step.{Step}
use Rattle.jr_flow.specs.Reached.{steps_of}
use Rattle.jr_kept.specs.declared.carried.Value.{Value}
use Rattle.jr_kept.specs.declared.handing.Handing.{Handing}
use Rattle.jr_kept.specs.Disturbed.{some_if}
use Rattle.jr_kept.specs.Gathered.{use_in, pair_of}
use Rattle.jr_kept.specs.Spliced.{exit_number}

-- ---- points

abbrev pub local_by : Bool → PointKind → Option ℕ
local_by is_definition (kind.Definition d) = some_if d is_definition
local_by is_definition (kind.Use d) = some_if d (not is_definition)
local_by is_definition _ = None

-- the local that gets a value at the point, or else that is used there
abbrev pub local_if : Bool → Option Point → Option ℕ
local_if is_definition None = None
local_if is_definition (Some x) = local_by is_definition x.kind

-- those of the first points are among these
abbrev pub HasLocals : List Point → Bool → ℕ → List ℕ → Type 0
HasLocals points is_definition n all = (k d : ℕ) → k < n → local_if is_definition (slice_get points k) ≡ Some d → Contains all d

abbrev pub is_exit_kind : Bool → PointKind → Bool
is_exit_kind t kind.Exit = not t
is_exit_kind t kind.Thrown = t
is_exit_kind t _ = false

-- the point is the exit of the method, by a throw or not
abbrev pub is_exit_at : ℕ → Bool → Option Point → Bool
is_exit_at method t None = false
is_exit_at method t (Some x) = nat_eq x.row method && is_exit_kind t x.kind

-- the exits of the method stand at their numbers
abbrev pub HasExits : List Point → ℕ → Type 0
HasExits points method = (t : Bool) → is_exit_at method t (slice_get points (exit_number t)) ≡ true

-- ---- graphs with more points and steps

pub record Includes (points : List Point) (steps : StepList) (more : List Point) (others : StepList) : Type 0 where
  pub few : length points ≤ length more
  pub kept : (k : ℕ) (x : Point) → slice_get points k ≡ Some x → slice_get more k ≡ Some x
  pub steps_kept : (i j : ℕ) (t : Bool) → Contains steps (i, j, t) → Contains others (i, j, t)

abbrev pub Grows : code.Graph → code.Graph → Type 0
Grows old new = Includes old.points.items (steps_of old) new.points.items (steps_of new)

abbrev pub plain_step : ℕ → ℕ → Step
plain_step from to = record { from = from; to = to; is_throw = false }

-- behind the point stands a use of the local that is none of the first points
pub record IsUsedAfter (made : code.Graph) (count from local : ℕ) : Type 0 where
  pub number : ℕ
  pub late : count ≤ number
  pub uses : slice_get made.points.items number ≡ point 0 (kind.Use local)
  pub step : Contains (steps_of made) (from, number, false)

-- before the point stands a definition of the local, at the row, that is none of the first points
pub record IsDefinedBefore (made : code.Graph) (count to row local : ℕ) : Type 0 where
  pub number : ℕ
  pub late : count ≤ number
  pub defines : slice_get made.points.items number ≡ point row (kind.Definition local)
  pub step : Contains (steps_of made) (number, to, false)

-- each step was there before, or leads from the point to one that is none of the first
abbrev pub OnlyBehind : code.Graph → code.Graph → ℕ → Type 0
OnlyBehind old new from = (i j : ℕ) (t : Bool) → Contains (steps_of new) (i, j, t) → Contains (steps_of old) (i, j, t) ⊎ ((i ≡ from) × (length old.points.items ≤ j))

-- a definition that is none of the first points stands before the point, with such a row and local
pub record IsDefinedTo (made : code.Graph) (count to : ℕ) (P : ℕ → ℕ → Type 0) (i j : ℕ) : Type 0 where
  pub row : ℕ
  pub local : ℕ
  pub is : P row local
  pub late : count ≤ i
  pub ends : j ≡ to
  pub defines : slice_get made.points.items i ≡ point row (kind.Definition local)

-- each step was there before, or leads from such a definition to the point
abbrev pub OnlyDefines : code.Graph → code.Graph → ℕ → (ℕ → ℕ → Type 0) → Type 0
OnlyDefines old new to P = (i j : ℕ) (t : Bool) → Contains (steps_of new) (i, j, t) → Contains (steps_of old) (i, j, t) ⊎ IsDefinedTo new (length old.points.items) to P i j

-- ---- values that leave the method

abbrev pub value_if : ℕ → ℕ → Bool → Option Value
value_if row d is_such = if is_such then Some (record { row = row; local = d }) else None

abbrev pub value_by : PointKind → ℕ → Bool → Option Value
value_by (kind.Definition d) row is_such = value_if row d is_such
value_by _ row is_such = None

-- what the local of the point gets there, unless that only hands on
abbrev pub value_at : Handing → Option Point → Bool → Option Value
value_at handing None is_such = None
value_at handing (Some x) is_such = value_by x.kind x.row (not (is_some (use_in handing x.row)) && is_such)

abbrev pub item_of : Option Value → List Value
item_of None = []
item_of (Some v) = v ∷ []

-- those of the definitions that reach one of the points behind the first ones
abbrev pub values_by : List Point → Handing → ℕ → List (ℕ × ℕ) → List Value
values_by points handing count [] = []
values_by points handing count (x ∷ all) = item_of (value_at handing (slice_get points x.0) (not (nat_lt x.1 count))) ++ values_by points handing count all

-- by numbers: a definition of the local at the row reaches the point
pub record Leaves (points : List Point) (steps : StepList) (exit d row : ℕ) : Type 0 where
  pub from : ℕ
  pub defines : slice_get points from ≡ point row (kind.Definition d)
  pub path : StepPath steps (PassesAt points (is_definition_of d)) from exit

-- all of them are among the values, but for those that only hand on
abbrev pub AreLeaving : List Point → StepList → Handing → ℕ → List Value → Type 0
AreLeaving points steps handing exit values = (d row : ℕ) → Leaves points steps exit d row → use_in handing row ≡ None → Contains values (record { row = row; local = d })

-- and each value is such
abbrev pub OnlyLeaving : List Point → StepList → Handing → ℕ → List Value → Type 0
OnlyLeaving points steps handing exit values = (v : Value) → Contains values v → Leaves points steps exit v.local v.row × (use_in handing v.row ≡ None)

-- ---- uses behind the method

abbrev pub pairs_by : (ℕ → Option ℕ) → List ℕ → List (ℕ × ℕ)
pairs_by origin [] = []
pairs_by origin (d ∷ all) = pair_of (origin d) (Some d) ++ pairs_by origin all

-- under each old local stand its copies that are used at the points
abbrev pub AreCopies : List Point → (ℕ → Option ℕ) → (ℕ → List ℕ) → Type 0
AreCopies points origin copies = (k row copy old : ℕ) → slice_get points k ≡ point row (kind.Use copy) → origin copy ≡ Some old → Contains (copies old) copy

-- and each local under an old one is a copy of it
abbrev pub OnlyCopies : (ℕ → Option ℕ) → (ℕ → List ℕ) → Type 0
OnlyCopies origin copies = (old copy : ℕ) → Contains (copies old) copy → origin copy ≡ Some old

-- by numbers: from an exit of the method, by a throw or not, a use of the local is reached with no definition of it between
pub record IsUsedBehind (points : List Point) (steps : StepList) (method : ℕ) (t : Bool) (local : ℕ) : Type 0 where
  pub from : ℕ
  pub to : ℕ
  pub row : ℕ
  pub exits : is_exit_at method t (slice_get points from) ≡ true
  pub uses : slice_get points to ≡ point row (kind.Use local)
  pub path : StepPath steps (PassesAt points (is_definition_of local)) from to

-- before each exit of the method stands the hub
pub record HasHub (points : List Point) (made : code.Graph) (method : ℕ) (t : Bool) (hub : ℕ) : Type 0 where
  pub stands : slice_get made.points.items hub ≡ point method kind.Node
  pub before : (k : ℕ) → is_exit_at method t (slice_get points k) ≡ true → Contains (steps_of made) (hub, k, false)

-- each step was there before, or leads from the hub to an exit of the method
abbrev pub OnlyHub : code.Graph → code.Graph → ℕ → Bool → Type 0
OnlyHub graph made method t = (i j : ℕ) (u : Bool) → Contains (steps_of made) (i, j, u) → Contains (steps_of graph) (i, j, u) ⊎ ((i ≡ length graph.points.items) × (is_exit_at method t (slice_get graph.points.items j) ≡ true))

abbrev pub IsOf : ℕ → ℕ → ℕ → ℕ → Type 0
IsOf row local r l = (r ≡ row) × (l ≡ local)

-- the local is another one than that of the value, among these, or a copy of the same old local, or so for one of some values
pub record IsOtherOf (value : Value) (copies : List ℕ) (r l : ℕ) : Type 0 where
  pub row : r ≡ value.row
  pub among : Contains copies l
  pub apart : value.local ≡ l → ⊥

pub record IsCopyOf (value : Value) (copies : ℕ → List ℕ) (origin : ℕ → Option ℕ) (r l : ℕ) : Type 0 where
  pub old : ℕ
  pub is : origin value.local ≡ Some old
  pub other : IsOtherOf value (copies old) r l

pub record IsCopyOfOne (values : List Value) (copies : ℕ → List ℕ) (origin : ℕ → Option ℕ) (r l : ℕ) : Type 0 where
  pub value : Value
  pub member : Contains values value
  pub copy : IsCopyOf value copies origin r l

-- the copy of the local of a value, which is another one
pub record IsOtherCopy (origin : ℕ → Option ℕ) (d copy : ℕ) : Type 0 where
  pub old : ℕ
  pub copies : (origin d ≡ Some old) × (origin copy ≡ Some old)
  pub apart : d ≡ copy → ⊥

-- no use of another copy of the local of one of the values is reached from an exit
abbrev pub NoneBehind : List Point → StepList → ℕ → Bool → (ℕ → Option ℕ) → List Value → Type 0
NoneBehind points steps method t origin values = (v : Value) (copy : ℕ) → Contains values v → IsOtherCopy origin v.local copy → IsUsedBehind points steps method t copy → ⊥

-- before the hub stand definitions of the other copies of the locals of the values
abbrev pub AreDefined : code.Graph → ℕ → ℕ → List Value → (ℕ → List ℕ) → (ℕ → Option ℕ) → Type 0
AreDefined made count hub values copies origin = (v : Value) → Contains values v → (copy old : ℕ) → origin v.local ≡ Some old → Contains (copies old) copy → (v.local ≡ copy → ⊥) → IsDefinedBefore made count hub v.row copy

-- by numbers: no value that a local gets in the method reaches an exit from which a use of another copy of that local is reached
abbrev pub IsUnlostBy : code.Graph → code.Graph → Handing → (ℕ → Option ℕ) → Bool → Type 0
IsUnlostBy inner whole handing origin t = (d row copy : ℕ) → Leaves inner.points.items (steps_of inner) (exit_number t) d row → use_in handing row ≡ None
    → IsOtherCopy origin d copy → IsUsedBehind whole.points.items (steps_of whole) inner.body t copy → ⊥

abbrev pub IsUnlost : code.Graph → code.Graph → Handing → (ℕ → Option ℕ) → Type 0
IsUnlost inner whole handing origin = (t : Bool) → IsUnlostBy inner whole handing origin t
