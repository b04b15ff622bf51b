-- What is handed on between a body and a method that it calls, by points.
use Rattle.std.specs.Prelude.{◌≡◌, ◌⊎◌, ℕ, ◌+◌, ◌-◌, ◌<◌, ◌≤◌, Bool, true, false, not, ◌&&◌, List, length, Option, Some, None, IfSome, is_some, nat_eq, slice_get}
use Rattle.jr_tree.specs.Rows.{Rows, end}
use Rattle.jr_change.specs.declared.change.RowRange.{RowRange}
use Rattle.jr_locks.specs.Origins.{no_row}
use Rattle.jr_flow_defs.specs.declared.point.Point.{Point}
use Rattle.jr_flow_defs.specs.declared.point.PointKind.{PointKind}
use Rattle.jr_flow_defs.specs.declared.point.PointKind.TheVariants as kind
use Rattle.jr_flow_defs.specs.Acts.{children}
use Rattle.jr_flow_defs.specs.Kept.{Origin, parameters, statement_round}
use Rattle.jr_kept.specs.declared.handing.Crossing.{Crossing}
use Rattle.jr_kept.specs.declared.handing.Handing.{Handing}
use Rattle.jr_kept.specs.Disturbed.{is_inside, some_if}
use Rattle.jr_kept.specs.Gathered.{use_in}

-- ---- points inside a row, whose rows are those from the first to before the end

abbrev pub defined_by : PointKind → ℕ → Bool → Option ℕ
defined_by (kind.Definition local) row inside = some_if row inside
defined_by _ row inside = None

-- the row of the point, where a local gets a value at it
abbrev pub defined_in : ℕ → ℕ → Option Point → Option ℕ
defined_in first end None = None
defined_in first end (Some x) = defined_by x.kind x.row (is_inside first end x.row)

abbrev pub used_by : PointKind → ℕ → Bool → Option ℕ
used_by (kind.Use local) row is_such = some_if row is_such
used_by _ row is_such = None

-- the row of the point, where it is an added use
abbrev pub added_in : ℕ → ℕ → Origin → Option Point → Option ℕ
added_in first end origin None = None
added_in first end origin (Some x) = used_by x.kind x.row (is_inside first end x.row && not (is_some (origin x.row)))

-- one of the points is a definition at the row
pub record IsDefinedAt (points : List Point) (first end d : ℕ) : Type 0 where
  pub number : ℕ
  pub defines : defined_in first end (slice_get points number) ≡ Some d

-- one of the points is an added use at the row
pub record IsAddedAt (points : List Point) (first end : ℕ) (origin : Origin) (k : ℕ) : Type 0 where
  pub number : ℕ
  pub uses : added_in first end origin (slice_get points number) ≡ Some k

-- ---- pairs of definitions and uses

pub record IsPaired (definitions uses : List ℕ) (d k : ℕ) : Type 0 where
  pub place : ℕ
  pub definition : slice_get definitions place ≡ Some d
  pub used : slice_get uses place ≡ Some k

-- one definition more is handed on, if there is one, and from a use, if there is one
abbrev pub AddsOne : Handing → Handing → Option ℕ → Option ℕ → Type 0
AddsOne old new definition from = (d k : ℕ) → use_in new d ≡ Some k → (use_in old d ≡ Some k) ⊎ ((definition ≡ Some d) × (from ≡ Some k))

abbrev pub AddsPairs : Handing → Handing → List ℕ → List ℕ → Type 0
AddsPairs old new definitions uses = (d k : ℕ) → use_in new d ≡ Some k → (use_in old d ≡ Some k) ⊎ IsPaired definitions uses d k

abbrev pub AddsAssigned : Handing → Handing → List Point → ℕ → ℕ → Option ℕ → Type 0
AddsAssigned old new points first end from = (d k : ℕ) → use_in new d ≡ Some k → (use_in old d ≡ Some k) ⊎ (IsDefinedAt points first end d × (from ≡ Some k))

-- ---- tests of a table

-- both are one row
pub record AreOne (a b : Option ℕ) : Type 0 where
  pub row : ℕ
  pub first : a ≡ Some row
  pub second : b ≡ Some row

-- the definition is handed on from the use, and there is one
abbrev pub IsFrom : Handing → Option ℕ → ℕ → Type 0
IsFrom handing from d = AreOne from (use_in handing d)

abbrev pub are_one : Option ℕ → Option ℕ → Bool
are_one None other = false
are_one (Some row) None = false
are_one (Some row) (Some same) = nat_eq row same

-- there is none, or it is this one
abbrev pub is_none_or : Option ℕ → Option ℕ → Bool
is_none_or None row = true
is_none_or (Some found) row = are_one (Some found) row

abbrev pub is_from : Handing → Option ℕ → Option ℕ → Bool
is_from handing None from = true
is_from handing (Some d) from = are_one from (use_in handing d)

abbrev pub has_pair : Handing → Option ℕ → Option ℕ → Bool
has_pair handing definition None = true
has_pair handing definition (Some k) = is_from handing definition (Some k)

-- so it is with the first so many pairs, and definitions among points
abbrev pub HasPairs : Handing → List ℕ → List ℕ → ℕ → Type 0
HasPairs handing definitions uses n = (i d k : ℕ) → i < n → slice_get definitions i ≡ Some d → slice_get uses i ≡ Some k → use_in handing d ≡ Some k

abbrev pub HasAssigned : Handing → List Point → ℕ → ℕ → Option ℕ → ℕ → Type 0
HasAssigned handing points first end from n = (i d : ℕ) → i < n → defined_in first end (slice_get points i) ≡ Some d → IsFrom handing from d

-- no other added use is among the first so many points
abbrev pub IsOnly : List Point → ℕ → ℕ → Origin → Option ℕ → ℕ → Type 0
IsOnly points first end origin from n = (i k : ℕ) → i < n → added_in first end origin (slice_get points i) ≡ Some k → from ≡ Some k

-- ---- the table of a call

-- what crosses between the call and the method
pub record IsCrossing (crossing : Crossing) (q : Rows) (points : List Point) (call method : ℕ) (origin : Origin) : Type 0 where
  pub parameters : crossing.parameters.items ≡ parameters q method
  pub arguments : crossing.arguments.items ≡ children q call
  pub statement : (crossing.statement.first ≡ statement_round q call call) × (crossing.statement.end ≡ end q (statement_round q call call))
  pub inside : (crossing.method.first ≡ method) × (crossing.method.end ≡ end q method)
  pub returned : IfSome crossing.returned (λ k. IsAddedAt points method (end q method) origin k)

abbrev pub IsAssignedIn : Crossing → List Point → ℕ → Type 0
IsAssignedIn crossing points d = IsDefinedAt points crossing.statement.first crossing.statement.end d

-- nothing but that is handed on
abbrev pub OnlyCrosses : Handing → Crossing → List Point → Type 0
OnlyCrosses handing crossing points = (d k : ℕ) → use_in handing d ≡ Some k → IsPaired crossing.parameters.items crossing.arguments.items d k ⊎ (IsAssignedIn crossing points d × (crossing.returned ≡ Some k))

-- all of it is handed on
pub record HasCrossing (handing : Handing) (crossing : Crossing) (points : List Point) (origin : Origin) : Type 0 where
  pub pairs : (d k : ℕ) → IsPaired crossing.parameters.items crossing.arguments.items d k → use_in handing d ≡ Some k
  pub assigned : (d : ℕ) → IsAssignedIn crossing points d → IsFrom handing crossing.returned d
  pub one : (k : ℕ) → IsAddedAt points crossing.method.first crossing.method.end origin k → crossing.returned ≡ Some k

-- the table has just what crosses between the call and the method
pub record IsHandingOf (handing : Handing) (q : Rows) (points : List Point) (call method : ℕ) (origin : Origin) : Type 0 where
  pub crossing : Crossing
  pub is : IsCrossing crossing q points call method origin
  pub only : OnlyCrosses handing crossing points
  pub all : HasCrossing handing crossing points origin

-- ---- what a table gets

-- the table has a place for each row of the range
pub record Spans (handing : Handing) (span : RowRange) : Type 0 where
  pub first : handing.first ≡ span.first
  pub size : length handing.uses.items ≡ span.end - span.first

-- the table has a place for the row
pub record IsSpanned (handing : Handing) (d : ℕ) : Type 0 where
  pub from : handing.first ≤ d
  pub to : d < handing.first + length handing.uses.items

-- where the table has a place for the definition it hands on from the use, and each other one does as before
pub record PutsOne (old new : Handing) (definition from : Option ℕ) : Type 0 where
  pub first : new.first ≡ old.first
  pub size : length new.uses.items ≡ length old.uses.items
  pub here : (d k : ℕ) → definition ≡ Some d → from ≡ Some k → (k ≡ no_row → ⊥) → IsSpanned old d → use_in new d ≡ Some k
  pub kept : (d k : ℕ) → use_in old d ≡ Some k → ((j : ℕ) → definition ≡ Some d → from ≡ Some j → j ≡ k) → use_in new d ≡ Some k

-- each definition is paired with one use
abbrev pub ArePairedOnce : List ℕ → List ℕ → Type 0
ArePairedOnce definitions uses = (d j k : ℕ) → IsPaired definitions uses d j → IsPaired definitions uses d k → j ≡ k

pub record PutsPairs (old new : Handing) (definitions uses : List ℕ) (n : ℕ) : Type 0 where
  pub first : new.first ≡ old.first
  pub size : length new.uses.items ≡ length old.uses.items
  pub every : (i d k : ℕ) → i < n → slice_get definitions i ≡ Some d → slice_get uses i ≡ Some k → (k ≡ no_row → ⊥) → IsSpanned old d → use_in new d ≡ Some k

pub record PutsAssigned (old new : Handing) (points : List Point) (low high : ℕ) (from : Option ℕ) (n : ℕ) : Type 0 where
  pub first : new.first ≡ old.first
  pub size : length new.uses.items ≡ length old.uses.items
  pub every : (i d k : ℕ) → i < n → defined_in low high (slice_get points i) ≡ Some d → from ≡ Some k → (k ≡ no_row → ⊥) → IsSpanned old d → use_in new d ≡ Some k
  pub kept : (d k : ℕ) → use_in old d ≡ Some k → (IsDefinedAt points low high d → ⊥) → use_in new d ≡ Some k

-- ---- where one table tells it

-- a row that the range has, and that is none of no number
pub record IsWithin (span : RowRange) (d : ℕ) : Type 0 where
  pub from : span.first ≤ d
  pub to : d < span.end

abbrev pub IsRow : ℕ → Type 0
IsRow k = k ≡ no_row → ⊥

-- each definition is handed on from one use at most, all of them stand in the range, and one added use at most is returned: one if the call is assigned
pub record CrossesOnce (span : RowRange) (crossing : Crossing) (points : List Point) (origin : Origin) : Type 0 where
  pub once : ArePairedOnce crossing.parameters.items crossing.arguments.items
  pub parameters : (d k : ℕ) → IsPaired crossing.parameters.items crossing.arguments.items d k → IsWithin span d × IsRow k
  pub assigned : (d : ℕ) → IsAssignedIn crossing points d → IsWithin span d × ((k : ℕ) × (crossing.returned ≡ Some k) × IsRow k)
  pub apart : (d k : ℕ) → IsPaired crossing.parameters.items crossing.arguments.items d k → IsAssignedIn crossing points d → ⊥
  pub one : (k : ℕ) → IsAddedAt points crossing.method.first crossing.method.end origin k → crossing.returned ≡ Some k

-- the same, by the rows of the call and the method
pub record HandsOnce (span : RowRange) (q : Rows) (points : List Point) (call method : ℕ) (origin : Origin) : Type 0 where
  pub once : ArePairedOnce (parameters q method) (children q call)
  pub pairs : (d k : ℕ) → IsPaired (parameters q method) (children q call) d k → IsWithin span d × IsRow k
  pub assigned : (d : ℕ) → IsDefinedAt points (statement_round q call call) (end q (statement_round q call call)) d → IsWithin span d × ((k : ℕ) × IsAddedAt points method (end q method) origin k)
  pub apart : (d k : ℕ) → IsPaired (parameters q method) (children q call) d k → IsDefinedAt points (statement_round q call call) (end q (statement_round q call call)) d → ⊥
  pub one : (j k : ℕ) → IsAddedAt points method (end q method) origin j → IsAddedAt points method (end q method) origin k → j ≡ k
  pub rows : (k : ℕ) → IsAddedAt points method (end q method) origin k → IsRow k
