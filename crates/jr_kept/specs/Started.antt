-- Initializations of classes that a change may move (JLS 12.4.1, 12.4.2).
use Rattle.std.specs.Prelude.{◌≡◌, ℕ, Bool, true, false, List, if◌then◌else◌, Option, Some, None, nat_eq, slice_get}
use Rattle.jr_tree.specs.declared.label.Label.{Label}
use Rattle.jr_tree.specs.declared.label.Label.TheVariants as is
use Rattle.jr_tree.specs.Rows.{Rows, label, parent}
use Rattle.jr_plain.specs.Enclosing.{declaring_type}
use Rattle.jr_plain.specs.Modifiers.{is_static}
use Rattle.jr_change.specs.declared.change.Raised.{Raised}
use Rattle.jr_change.specs.declared.change.Course.{Course}
use Rattle.jr_change.specs.declared.change.Course.TheVariants as course
use Rattle.jr_flow_defs.specs.declared.point.Point.{Point}
use Rattle.jr_flow_defs.specs.declared.point.PointKind.{PointKind}
use Rattle.jr_flow_defs.specs.declared.point.PointKind.TheVariants as kind
use Rattle.jr_flow_defs.specs.Meaning.{Meaning, declared}
use Rattle.jr_flow_defs.specs.States.{State}
use Rattle.jr_flow_defs.specs.Paths.{IsReached}
use Rattle.jr_flow_defs.specs.Edges.{point, body_flow}
use Rattle.jr_kept.specs.Courses.{IsBody}

-- the class in whose initialization a body runs: that of a static initializer or of a static field (JLS 8.3.2.1, 8.7)
abbrev pub class_by : Label → Rows → ℕ → Option ℕ
class_by (is.Initializer true) p n = Some (parent p (parent p n))
class_by (is.Field modifiers dims) p n = if is_static p n then declaring_type p n else None
class_by _ p n = None

-- control comes in the body to a node at the row, which is not that of the body
pub record IsActing (p : Rows) (m : Meaning) (body row : ℕ) : Type 0 where
  pub at : State
  pub reached : IsReached (body_flow p m body) at
  pub stands : (body_flow p m body).point at ≡ point row kind.Node
  pub other : row ≡ body → ⊥

-- something acts in the initialization of the class
pub record ActsAtStart (p : Rows) (m : Meaning) (class : ℕ) : Type 0 where
  pub body : ℕ
  pub is : IsBody p body
  pub of_class : class_by (label p body) p body ≡ Some class
  pub row : ℕ
  pub acts : IsActing p m body row

-- the method is static and used, and something acts in the initialization of the class that it leaves: a call of it may begin that, and does no more
pub record LeavesStart (p : Rows) (m : Meaning) (raised : Raised) : Type 0 where
  pub static : is_static p raised.method.first ≡ true
  pub acts : ActsAtStart p m raised.from
  pub used_at : ℕ
  pub uses : declared (m.targets used_at) ≡ Some raised.method.first

abbrev pub LeavesStartIn : Option Raised → Rows → Meaning → Type 0
LeavesStartIn None p m = ⊥
LeavesStartIn (Some raised) p m = LeavesStart p m raised

-- something acts in the initialization of some class
pub record ActsAtSomeStart (p : Rows) (m : Meaning) : Type 0 where
  pub class : ℕ
  pub acts : ActsAtStart p m class

abbrev pub is_creation : Label → Bool
is_creation is.New = true
is_creation _ = false

-- the row is that of a creation, and something acts in the initialization of some class
pub record CreatesAt (p : Rows) (m : Meaning) (row : ℕ) : Type 0 where
  pub creates : label p row ≡ is.New
  pub acts : ActsAtSomeStart p m

-- the row stands over another, or is that
pub data IsRound (p : Rows) (row : ℕ) : ℕ → Type 0 where
  itself : {over : ℕ} → over ≡ row → IsRound p row over
  above : {k over : ℕ} → IsRound p row k → over ≡ parent p k → IsRound p row over

-- a creation stands round the row, and something acts in the initialization of some class
pub record IsInCreation (p : Rows) (m : Meaning) (row : ℕ) : Type 0 where
  pub over : ℕ
  pub round : IsRound p row over
  pub creates : CreatesAt p m over

-- the local is used in a creation, and something acts in the initialization of some class: the creation may begin that before its arguments (JLS 12.4.1, 15.9.4)
pub record BeginsFirst (p : Rows) (m : Meaning) (local : ℕ) : Type 0 where
  pub used_at : ℕ
  pub uses : declared (m.targets used_at) ≡ Some local
  pub inside : IsInCreation p m used_at

-- the local is replaced by its initializer, and a creation may begin an initialization before that
abbrev pub BeginsFirstIn : Course → Rows → Meaning → Type 0
BeginsFirstIn (course.Inlined local statement) p m = BeginsFirst p m local
BeginsFirstIn course.Same p m = ⊥
BeginsFirstIn (course.Removed range) p m = ⊥
BeginsFirstIn (course.Extracted call method) p m = ⊥

-- ---- by points

abbrev pub node_by : PointKind → ℕ → ℕ → Option ℕ
node_by kind.Node row body = if nat_eq row body then None else Some row
node_by _ row body = None

-- the row of the point, if it is a node and not that of the body
abbrev pub node_at : ℕ → Option Point → Option ℕ
node_at body None = None
node_at body (Some x) = node_by x.kind x.row body

pub record IsNodeAmong (points : List Point) (body row : ℕ) : Type 0 where
  pub number : ℕ
  pub is : node_at body (slice_get points number) ≡ Some row
