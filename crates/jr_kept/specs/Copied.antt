-- How many copies rows have.
use Rattle.std.specs.Prelude.{◌≡◌, ◌⊎◌, ℕ, zero, suc, ◌+◌, ◌<◌, ◌≤◌, Bool, true, false, not, ◌&&◌, nat_eq, List, length, Option, Some, slice_get}
use Rattle.jr_tree.specs.Rows.{Rows, label}
use Rattle.jr_flow_defs.specs.declared.point.Point.{Point}
use Rattle.jr_flow_defs.specs.declared.point.PointKind.{PointKind}
use Rattle.jr_flow_defs.specs.declared.point.PointKind.TheVariants as kind
use Rattle.jr_flow_defs.specs.Acts.{is_parameter}
use Rattle.jr_flow_defs.specs.Kept.{Origin, HasOneCopy, old_name}
use Rattle.jr_kept.specs.Named.{no_name}

-- the row has so many copies among the first ones; of two or more it is told alone that there are two
abbrev pub Counts : ℕ → List ℕ → ℕ → ℕ → Type 0
Counts zero origin n i = (k : ℕ) → k < i → slice_get origin k ≡ Some n → ⊥
Counts (suc zero) origin n i = (copy : ℕ) × (copy < i) × (slice_get origin copy ≡ Some n) × ((k : ℕ) → k < i → slice_get origin k ≡ Some n → k ≡ copy)
Counts (suc (suc c)) origin n i = (j : ℕ) × (k : ℕ) × (j < k) × (k < i) × (slice_get origin j ≡ Some n) × (slice_get origin k ≡ Some n)

-- a number that is one more, or that is past two and stays
abbrev pub IsOneMore : ℕ → ℕ → Type 0
IsOneMore c d = (d ≡ c + 1) ⊎ ((d ≡ c) × (2 ≤ c))

-- the number at the place is one more
pub record AddsOne (old new : List ℕ) (place : ℕ) : Type 0 where
  pub size : length new ≡ length old
  pub here : (c : ℕ) → slice_get new place ≡ Some c → (b : ℕ) × (slice_get old place ≡ Some b) × IsOneMore b c
  pub others : (k c : ℕ) → (k ≡ place → ⊥) → slice_get new k ≡ Some c → slice_get old k ≡ Some c

-- for the rows from the body on how many copies each has among the first ones
pub record AreCounted (origin : List ℕ) (body i : ℕ) (copies : List ℕ) : Type 0 where
  pub few : body + length copies ≤ 4294967295
  pub counts : (place c : ℕ) → slice_get copies place ≡ Some c → Counts c origin (body + place) i

-- the point is an event that is to have one copy
pub record IsEvent (p : Rows) (dropped : Option ℕ) (x : Point) : Type 0 where
  pub name : ℕ
  pub node : x.kind ≡ kind.Node
  pub named : old_name p dropped x.row ≡ Some name
  pub event : is_parameter (label p x.row) ≡ false

abbrev pub is_node : PointKind → Bool
is_node kind.Node = true
is_node _ = false

-- the same, told by the name of the point
abbrev pub is_event : Rows → ℕ → Point → Bool
is_event p name x = (is_node x.kind && not (nat_eq name no_name)) && not (is_parameter (label p x.row))

-- each event of the old body has one copy, by the points of its graph
abbrev pub HasEventsOnce : Rows → Option ℕ → Origin → List Point → Type 0
HasEventsOnce p dropped origin points = (k : ℕ) (x : Point) → slice_get points k ≡ Some x → IsEvent p dropped x → HasOneCopy origin x.row
