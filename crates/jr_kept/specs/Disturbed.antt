-- Definitions between that of a local and its uses, by the numbers of points.
use Rattle.std.specs.Prelude.{◌≡◌, ◌⊎◌, ℕ, ◌<◌, Bool, true, false, not, ◌&&◌, ◌||◌, if◌then◌else◌, List, Option, Some, None, nat_eq, nat_lt, slice_get}
use Rattle.std.specs.List.{Contains}
use Rattle.jr_tree.specs.Rows.{Rows, end}
use Rattle.jr_places.specs.declared.stamps.Stamps.{Stamps}
use Rattle.jr_places.specs.Stamps.{is_stamped, IsStamping}
use Rattle.jr_flow_defs.specs.declared.point.Point.{Point}
use Rattle.jr_flow_defs.specs.declared.point.PointKind.{PointKind}
use Rattle.jr_flow_defs.specs.declared.point.PointKind.TheVariants as kind
use Rattle.jr_flow_defs.specs.Edges.{point}
use Rattle.jr_flow_defs.specs.Graphs.{StepList, StepPath, PassesAt, is_definition_of}
use Rattle.jr_flow.specs.declared.point.Step as code_step

-- the row stands in the initializer of a local, whose rows are those from the first to before the end
abbrev pub is_inside : ℕ → ℕ → ℕ → Bool
is_inside first end row = not (nat_eq row first) && (not (nat_lt row first) && nat_lt row end)

abbrev pub is_point_inside : ℕ → ℕ → Option Point → Bool
is_point_inside first end None = false
is_point_inside first end (Some x) = is_inside first end x.row

-- ---- the points of a local

abbrev pub such_by : Bool → ℕ → PointKind → Bool
such_by is_definition d (kind.Definition e) = is_definition && nat_eq e d
such_by is_definition d (kind.Use e) = not is_definition && nat_eq e d
such_by is_definition d _ = false

-- a definition of the local, or else a use
abbrev pub is_such : Bool → ℕ → Point → Bool
is_such is_definition d x = such_by is_definition d x.kind

-- the numbers are those of such points, of the first ones
abbrev pub AreSuch : List Point → Bool → ℕ → ℕ → List ℕ → Type 0
AreSuch points is_definition d n all = (k : ℕ) → (Contains all k → PassesAt points (is_such is_definition d) k) × (k < n → PassesAt points (is_such is_definition d) k → Contains all k)

-- the point lies on a way from a definition of the local to a use of it, on which no other definition of it comes
pub record IsBetween (points : List Point) (steps : StepList) (d k : ℕ) : Type 0 where
  pub from : ℕ
  pub to : ℕ
  pub row : ℕ
  pub used_at : ℕ
  pub defines : slice_get points from ≡ point row (kind.Definition d)
  pub uses : slice_get points to ≡ point used_at (kind.Use d)
  pub before : StepPath steps (PassesAt points (is_definition_of d)) from k
  pub after : StepPath steps (PassesAt points (is_definition_of d)) k to

-- all such points are in both sets, but for definitions of the local
abbrev pub AreBetween : List Point → StepList → ℕ → Stamps → Stamps → Type 0
AreBetween points steps d behind before = (k : ℕ) → IsBetween points steps d k → (PassesAt points (is_definition_of d) k → ⊥) → (is_stamped behind k ≡ true) × (is_stamped before k ≡ true)

-- the points in both sets are such, and no definitions of the local
abbrev pub OnlyBetween : List Point → StepList → ℕ → Stamps → Stamps → Type 0
OnlyBetween points steps d behind before = (k : ℕ) → is_stamped behind k ≡ true → is_stamped before k ≡ true → IsBetween points steps d k × (PassesAt points (is_definition_of d) k → ⊥)

-- ---- throws

abbrev pub throws : ℕ → ℕ → List Point → Option code_step.Step → Bool
throws first end points None = false
throws first end points (Some s) = s.is_throw && is_point_inside first end (slice_get points s.from)

-- where that is not told, none of the first steps is a throw from the initializer
abbrev pub MayThrow : ℕ → ℕ → List Point → List code_step.Step → ℕ → Bool → Type 0
MayThrow first end points steps n told = told ≡ false → (k : ℕ) → k < n → throws first end points (slice_get steps k) ≡ false

-- one of the steps is a throw from the initializer
pub record HasThrow (first end : ℕ) (points : List Point) (steps : List code_step.Step) : Type 0 where
  pub number : ℕ
  pub is : throws first end points (slice_get steps number) ≡ true

-- a step by a throw leads from a point of the initializer
pub record ThrowsInside (points : List Point) (steps : StepList) (first end : ℕ) : Type 0 where
  pub from : ℕ
  pub to : ℕ
  pub point : Point
  pub step : Contains steps (from, to, true)
  pub stands : slice_get points from ≡ Some point
  pub inside : is_inside first end point.row ≡ true

-- ---- locals that are to keep their values

abbrev pub local_of : PointKind → Option ℕ
local_of (kind.Definition d) = Some d
local_of (kind.Use d) = Some d
local_of _ = None

abbrev pub local_at : Option Point → Option ℕ
local_at None = None
local_at (Some x) = local_of x.kind

abbrev pub AreLocalsBelow : List Point → ℕ → ℕ → Type 0
AreLocalsBelow points n bound = (k d : ℕ) → k < n → local_at (slice_get points k) ≡ Some d → d < bound

abbrev pub some_if : ℕ → Bool → Option ℕ
some_if d is_such = if is_such then Some d else None

abbrev pub held_by : PointKind → Bool → Bool → Option ℕ
held_by (kind.Use d) inside may_throw = some_if d inside
held_by (kind.Definition d) inside may_throw = some_if d may_throw
held_by _ inside may_throw = None

-- the local that is used in the initializer, or any that gets a value where it may throw
abbrev pub held_at : ℕ → ℕ → Bool → Option Point → Option ℕ
held_at first end may_throw None = None
held_at first end may_throw (Some x) = held_by x.kind (is_inside first end x.row) may_throw

-- one more number, if there is one
pub record AddsIf (old new : Stamps) (bound : ℕ) (local : Option ℕ) : Type 0 where
  pub counted : IsStamping new bound
  pub kept : (n : ℕ) → is_stamped old n ≡ true → is_stamped new n ≡ true
  pub here : (n : ℕ) → local ≡ Some n → n < bound → is_stamped new n ≡ true
  pub out : (n : ℕ) → is_stamped new n ≡ true → (is_stamped old n ≡ true) ⊎ (local ≡ Some n)

-- one of the points holds the local
pub record IsHeldAt (first end : ℕ) (may_throw : Bool) (points : List Point) (d : ℕ) : Type 0 where
  pub number : ℕ
  pub held : held_at first end may_throw (slice_get points number) ≡ Some d

-- no other local is in the set
abbrev pub OnlyHeld : ℕ → ℕ → Bool → List Point → Stamps → Type 0
OnlyHeld first end may_throw points set = (d : ℕ) → is_stamped set d ≡ true → IsHeldAt first end may_throw points d

-- those of the first points are in the set
abbrev pub AreHeld : ℕ → ℕ → Bool → List Point → ℕ → Stamps → Type 0
AreHeld first end may_throw points n set = (k d : ℕ) → k < n → held_at first end may_throw (slice_get points k) ≡ Some d → is_stamped set d ≡ true

-- ---- what disturbs

abbrev pub is_changed : Stamps → Stamps → Stamps → ℕ → ℕ → Bool
is_changed held behind before k local = (is_stamped held local && is_stamped behind k) && is_stamped before k

abbrev pub disturbs_by : PointKind → Bool → Stamps → Stamps → Stamps → ℕ → Bool
disturbs_by (kind.Definition d) inside held behind before k = inside || is_changed held behind before k d
disturbs_by _ inside held behind before k = false

abbrev pub disturbs : ℕ → ℕ → Stamps → Stamps → Stamps → ℕ → Point → Bool
disturbs first end held behind before k x = disturbs_by x.kind (is_inside first end x.row) held behind before k

abbrev pub NoneDisturbs : ℕ → ℕ → Stamps → Stamps → Stamps → List Point → ℕ → Type 0
NoneDisturbs first end held behind before points n = (k : ℕ) (x : Point) → k < n → slice_get points k ≡ Some x → disturbs first end held behind before k x ≡ false

-- a use of the local stands in the initializer of d, or a throw leaves it
pub data IsHeld (p : Rows) (points : List Point) (steps : StepList) (d local : ℕ) : Type 0 where
  used : (k row : ℕ) → slice_get points k ≡ point row (kind.Use local) → is_inside d (end p d) row ≡ true → IsHeld p points steps d local
  throwing : ThrowsInside points steps d (end p d) → IsHeld p points steps d local

-- by numbers: no definition stands in the initializer of d, and none of a local that is to keep its value between the definition of d and a use
pub record IsUndisturbed (p : Rows) (points : List Point) (steps : StepList) (d : ℕ) : Type 0 where
  pub inside : (k row local : ℕ) → slice_get points k ≡ point row (kind.Definition local) → is_inside d (end p d) row ≡ true → ⊥
  pub between : (k row local : ℕ) → slice_get points k ≡ point row (kind.Definition local) → (local ≡ d → ⊥) → IsHeld p points steps d local → IsBetween points steps d k → ⊥
