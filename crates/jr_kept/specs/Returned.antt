-- `return` statements that have a copy in an added method, and the points at which they stand.
use Rattle.std.specs.Prelude.{◌≡◌, ◌⊎◌, ⊤, ℕ, ◌+◌, ◌-◌, ◌<◌, ◌≤◌, Bool, true, false, not, ◌&&◌, List, Option, Some, None, nat_lt, slice_get}
use Rattle.std.specs.List.{Contains}
use Rattle.jr_tree.specs.declared.label.Label.{Label}
use Rattle.jr_tree.specs.declared.label.Label.TheVariants as is
use Rattle.jr_tree.specs.Rows.{Rows, label, end}
use Rattle.jr_places.specs.declared.stamps.Stamps.{Stamps}
use Rattle.jr_places.specs.Stamps.{is_stamped, IsStamping}
use Rattle.jr_flow_defs.specs.declared.point.Point.{Point}
use Rattle.jr_flow_defs.specs.declared.point.PointKind.{PointKind}
use Rattle.jr_flow_defs.specs.declared.point.PointKind.TheVariants as kind
use Rattle.jr_flow_defs.specs.Graphs.{StepList}
use Rattle.jr_flow_defs.specs.Meaning.{Meaning}
use Rattle.jr_flow_defs.specs.Kept.{Origin, LeavesAtOnce}
use Rattle.jr_flow.specs.declared.point.Step.{Step}
use Rattle.jr_kept.specs.Carried.{is_exit_at}
use Rattle.jr_kept.specs.Disturbed.{some_if}
use Rattle.jr_kept.specs.Waiting.{AreShaped, IsFree}

abbrev pub is_return : Label → Bool
is_return is.Return = true
is_return _ = false

-- the row of the body is that of a `return` of which a row below that of the method is a copy
pub record IsMoved (p q : Rows) (body method : ℕ) (origin : Origin) (n : ℕ) : Type 0 where
  pub from : body ≤ n
  pub to : n < end p body
  pub returns : is_return (label p n) ≡ true
  pub copy : ℕ
  pub is_copy : origin copy ≡ Some n
  pub behind : method < copy
  pub within : copy < end q method

-- the rows are in the set, from that of the body on
abbrev pub AreMoved : Rows → Rows → ℕ → ℕ → Origin → Stamps → Type 0
AreMoved p q body method origin moved = (n : ℕ) → IsMoved p q body method origin n → is_stamped moved (n - body) ≡ true

-- and no other rows
abbrev pub OnlyMoved : Rows → Rows → ℕ → ℕ → Origin → Stamps → Type 0
OnlyMoved p q body method origin moved = (j : ℕ) → is_stamped moved j ≡ true → IsMoved p q body method origin (body + j)

-- a `return` stands at the row, which is not before that of the body
abbrev pub is_noted : Rows → ℕ → ℕ → Bool
is_noted p body n = not (nat_lt n body) && is_return (label p n)

-- the row is such, and the number its place from that of the body on
pub record IsNoted (p : Rows) (body : ℕ) (row : Option ℕ) (j : ℕ) : Type 0 where
  pub at : ℕ
  pub stands : row ≡ Some at
  pub noted : is_noted p body at ≡ true
  pub place : at - body ≡ j

-- the row is in the set now by its place, if it is such
pub record NotesIf (body bound : ℕ) (old new : Stamps) (row : ℕ) (is_such : Bool) : Type 0 where
  pub counted : IsStamping new bound
  pub kept : (n : ℕ) → is_stamped old n ≡ true → is_stamped new n ≡ true
  pub here : is_such ≡ true → row - body < bound → is_stamped new (row - body) ≡ true
  pub out : (j : ℕ) → is_stamped new j ≡ true → (is_stamped old j ≡ true) ⊎ ((is_such ≡ true) × (row - body ≡ j))

-- the row is in the set now, if it is one of a `return`
pub record NotesReturn (p : Rows) (body bound : ℕ) (old new : Stamps) (row : Option ℕ) : Type 0 where
  pub counted : IsStamping new bound
  pub kept : (n : ℕ) → is_stamped old n ≡ true → is_stamped new n ≡ true
  pub here : (n : ℕ) → row ≡ Some n → is_noted p body n ≡ true → n - body < bound → is_stamped new (n - body) ≡ true
  pub out : (j : ℕ) → is_stamped new j ≡ true → (is_stamped old j ≡ true) ⊎ IsNoted p body row j

-- one of the rows from the first up to this one is a copy of such a row
pub record IsNotedTo (p : Rows) (body : ℕ) (origin : Origin) (first stop j : ℕ) : Type 0 where
  pub copy : ℕ
  pub from : first ≤ copy
  pub to : copy < stop
  pub noted : IsNoted p body (origin copy) j

-- those of which the rows from the first up to this one are copies are in the set
pub record NotesTo (p : Rows) (body bound : ℕ) (origin : Origin) (first stop : ℕ) (moved : Stamps) : Type 0 where
  pub counted : IsStamping moved bound
  pub here : (k n : ℕ) → first ≤ k → k < stop → origin k ≡ Some n → is_noted p body n ≡ true → n - body < bound → is_stamped moved (n - body) ≡ true
  pub out : (j : ℕ) → is_stamped moved j ≡ true → IsNotedTo p body origin first stop j

abbrev pub moved_by : PointKind → ℕ → Bool → Option ℕ
moved_by kind.Node row is_moved = some_if row is_moved
moved_by _ row is_moved = None

-- the row of the point, if it is that of such a `return`
abbrev pub moved_at : ℕ → Stamps → Option Point → Option ℕ
moved_at body moved None = None
moved_at body moved (Some x) = moved_by x.kind x.row (not (nat_lt x.row body) && is_stamped moved (x.row - body))

-- nothing is pending at those of the first points
abbrev pub AreFreeTo : Rows → ℕ → Stamps → List Point → ℕ → Type 0
AreFreeTo p body moved points n = (k row : ℕ) → k < n → moved_at body moved (slice_get points k) ≡ Some row → IsFree p body row

-- the step leads to the exit, if it begins at one of them
abbrev pub LeadsOut : ℕ → Stamps → List Point → Option Step → Type 0
LeadsOut body moved points None = ⊤
LeadsOut body moved points (Some s) = (row : ℕ) → moved_at body moved (slice_get points s.from) ≡ Some row → is_exit_at body false (slice_get points s.to) ≡ true

abbrev pub LeadOutTo : ℕ → Stamps → List Point → List Step → ℕ → Type 0
LeadOutTo body moved points steps n = (k : ℕ) → k < n → LeadsOut body moved points (slice_get steps k)

-- by numbers: nothing is pending where such a `return` stands, and each step from there leads to the exit
pub record LeavesByNumbers (p q : Rows) (body method : ℕ) (origin : Origin) (points : List Point) (steps : StepList) : Type 0 where
  pub shaped : AreShaped p body
  pub free : (i : ℕ) (x : Point) → slice_get points i ≡ Some x → x.kind ≡ kind.Node → IsMoved p q body method origin x.row → IsFree p body x.row
  pub exits : (i j : ℕ) (t : Bool) (x : Point) → Contains steps (i, j, t) → slice_get points i ≡ Some x → x.kind ≡ kind.Node → IsMoved p q body method origin x.row
      → is_exit_at body false (slice_get points j) ≡ true

-- each `return` of which a row of the method is a copy leaves the body at once
abbrev pub ReturnAtOnce : Rows → Rows → Meaning → ℕ → ℕ → Origin → Type 0
ReturnAtOnce p q m body method origin = (n k : ℕ) → label p n ≡ is.Return → origin k ≡ Some n → method < k → k < end q method → LeavesAtOnce p m body n
