-- Definitions that reach uses on both sides of a change.
use Rattle.std.specs.Prelude.{◌≡◌, ℕ, ◌<◌, true, List, Option, Some, None, slice_get}
use Rattle.std.specs.List.{Contains}
use Rattle.jr_places.specs.declared.stamps.Stamps.{Stamps}
use Rattle.jr_places.specs.Stamps.{is_stamped, IsStamping}
use Rattle.jr_flow_defs.specs.declared.point.Point.{Point}
use Rattle.jr_flow_defs.specs.declared.point.PointKind.{PointKind}
use Rattle.jr_flow_defs.specs.declared.point.PointKind.TheVariants as kind
use Rattle.jr_flow_defs.specs.Graphs.{ReachesByNumbers}
use Rattle.jr_flow.specs.Reached.{steps_of}
use Rattle.jr_kept.specs.declared.edges.Firsts.{Firsts}
use Rattle.jr_kept.specs.declared.flows.Flows.{Flows}
use Rattle.jr_kept.specs.declared.arriving.Uses.{Uses}
use Rattle.jr_kept.specs.declared.arriving.Sides.{Sides}
use Rattle.jr_kept.specs.declared.arriving.Comparing.{Comparing}
use Rattle.jr_kept.specs.Listed.{under_in}
use Rattle.jr_kept.specs.Named.{origin_in}
use Rattle.jr_kept.specs.Ordered.{Checks}
use Rattle.jr_kept.specs.Gathered.{use_in, Listed, IsOriginalOf, CanGather}

-- the old row of a use that is a copy
abbrev pub use_from : PointKind → Option ℕ → Option ℕ
use_from (kind.Use local) from = from
use_from _ from = None

abbrev pub old_use : (ℕ → Option ℕ) → Point → Option ℕ
old_use origin x = use_from x.kind (origin x.row)

-- copies of just the definitions that reached the old use reach the use
abbrev pub IsSame : Uses → ℕ → ℕ → Type 0
IsSame uses used old = (n : ℕ) → (Contains (under_in uses.before.now old) n → IsOriginalOf (Listed (under_in uses.after.now)) (use_in uses.handing.now) (origin_in uses.origin.now) used n)
    × (IsOriginalOf (Listed (under_in uses.after.now)) (use_in uses.handing.now) (origin_in uses.origin.now) used n → Contains (under_in uses.before.now old) n)

pub record AreSides (sides : Sides) (many bound : ℕ) : Type 0 where
  pub counted : IsStamping sides.known many
  pub gathers : CanGather sides.gathering many bound

pub record CanCompare (comparing : Comparing) (many bound : ℕ) : Type 0 where
  pub sides : AreSides comparing.sides many bound
  pub counted : IsStamping comparing.done bound

-- what was compared is the same
abbrev pub AllSame : Uses → Stamps → Type 0
AllSame uses done = (n old : ℕ) → is_stamped done n ≡ true → origin_in uses.origin.now n ≡ Some old → IsSame uses n old

-- more was compared
pub record Compares (uses : Uses) (old new : Stamps) (first last : Firsts) : Type 0 where
  pub kept : (n : ℕ) → is_stamped old n ≡ true → is_stamped new n ≡ true
  pub checks : Checks first last (AllSame uses old → AllSame uses new)

-- the point was compared, if it is a use that is a copy
abbrev pub IsDone : Uses → Stamps → Point → Type 0
IsDone uses done x = (old : ℕ) → old_use (origin_in uses.origin.now) x ≡ Some old → is_stamped done x.row ≡ true

abbrev pub AreDone : Uses → Stamps → List Point → ℕ → Type 0
AreDone uses done points n = (k : ℕ) (x : Point) → k < n → slice_get points k ≡ Some x → IsDone uses done x

abbrev pub AreSame : Uses → List Point → Type 0
AreSame uses points = (k : ℕ) (x : Point) (old : ℕ) → slice_get points k ≡ Some x → old_use (origin_in uses.origin.now) x ≡ Some old → IsSame uses x.row old

-- by numbers: at each use that is a copy arrive copies of just the definitions that reached the old use
abbrev pub KeepsUses : Flows → (ℕ → Option ℕ) → Type 0
KeepsUses flows use_of = (k : ℕ) (x : Point) (old : ℕ) → slice_get flows.after.now.points.items k ≡ Some x → old_use (origin_in flows.origin.now) x ≡ Some old
    → (n : ℕ) → (ReachesByNumbers flows.before.now.points.items (steps_of flows.before.now) n old → IsOriginalOf (ReachesByNumbers flows.after.now.points.items (steps_of flows.after.now)) use_of (origin_in flows.origin.now) x.row n)
    × (IsOriginalOf (ReachesByNumbers flows.after.now.points.items (steps_of flows.after.now)) use_of (origin_in flows.origin.now) x.row n → ReachesByNumbers flows.before.now.points.items (steps_of flows.before.now) n old)
