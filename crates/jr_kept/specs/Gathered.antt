-- Definitions that reach uses, by rows, and the search for those that reach one.
use Rattle.std.specs.Prelude.{◌≡◌, ◌⊎◌, ℕ, ◌-◌, ◌<◌, ◌≤◌, Bool, true, List, [], ◌∷◌, ◌++◌, if◌then◌else◌, Option, Some, None, nat_lt, slice_get}
use Rattle.std.specs.List.{Contains}
use Rattle.jr_places.specs.declared.stamps.Stamps.{Stamps}
use Rattle.jr_places.specs.Stamps.{is_stamped, IsStamping}
use Rattle.jr_locks.specs.Origins.{origin_of, row_by}
use Rattle.jr_flow_defs.specs.declared.point.Point.{Point}
use Rattle.jr_kept.specs.declared.gathering.Originals.{Originals}
use Rattle.jr_kept.specs.declared.gathering.Gathering.{Gathering}
use Rattle.jr_kept.specs.declared.handing.Handing.{Handing}
use Rattle.jr_kept.specs.Searched.{IsMetOrOpen}

-- ---- pairs of rows

abbrev pub one_row : Option Point → Option ℕ
one_row None = None
one_row (Some x) = Some x.row

abbrev pub row_at : List Point → ℕ → Option ℕ
row_at points k = one_row (slice_get points k)

abbrev pub pair_from : ℕ → Option ℕ → List (ℕ × ℕ)
pair_from to None = []
pair_from to (Some from) = (to, from) ∷ []

abbrev pub pair_of : Option ℕ → Option ℕ → List (ℕ × ℕ)
pair_of None from = []
pair_of (Some to) from = pair_from to from

-- for pairs of numbers, the row of the second with that of the first
abbrev pub pairs_of : List Point → List (ℕ × ℕ) → List (ℕ × ℕ)
pairs_of points [] = []
pairs_of points (x ∷ all) = pair_of (row_at points x.1) (row_at points x.0) ++ pairs_of points all

-- the pairs are those of a use and a definition that reaches it
abbrev pub ArePairs : List (ℕ × ℕ) → (ℕ → ℕ → Type 0) → Type 0
ArePairs pairs Reaches = (d u : ℕ) → (Contains pairs (u, d) → Reaches d u) × (Reaches d u → Contains pairs (u, d))

abbrev pub AreFrom : List Point → ℕ → ℕ → Type 0
AreFrom points n least = (k : ℕ) (x : Point) → k < n → slice_get points k ≡ Some x → least ≤ x.row

abbrev pub AreBelow : List Point → ℕ → ℕ → Type 0
AreBelow points n bound = (k : ℕ) (x : Point) → k < n → slice_get points k ≡ Some x → x.row < bound

-- in the list of each use stand the definitions that reach it
abbrev pub AreReached : (ℕ → List ℕ) → (ℕ → ℕ → Type 0) → Type 0
AreReached ways Reaches = (d u : ℕ) → (Contains (ways u) d → Reaches d u) × (Reaches d u → Contains (ways u) d)

abbrev pub AreInside : (ℕ → List ℕ) → ℕ → Type 0
AreInside ways bound = (u d : ℕ) → Contains (ways u) d → d < bound

-- ---- what is handed on

-- the use from which a definition hands on, if it does
abbrev pub use_in : Handing → ℕ → Option ℕ
use_in handing d = if nat_lt d handing.first then None else row_by (origin_of handing.uses.items (d - handing.first))

-- the definition reaches the use, or one that hands on to it
pub data IsFound (Reaches : ℕ → ℕ → Type 0) (use_of : ℕ → Option ℕ) (used : ℕ) : ℕ → Type 0 where
  first : {d : ℕ} → Reaches d used → IsFound Reaches use_of used d
  on : {d k e : ℕ} → IsFound Reaches use_of used d → use_of d ≡ Some k → Reaches e k → IsFound Reaches use_of used e

-- a copy of the old row is found that hands nothing on
pub record IsOriginalOf (Reaches : ℕ → ℕ → Type 0) (use_of : ℕ → Option ℕ) (origin : ℕ → Option ℕ) (used old : ℕ) : Type 0 where
  pub copy : ℕ
  pub found : IsFound Reaches use_of used copy
  pub own : use_of copy ≡ None
  pub is_copy : origin copy ≡ Some old

-- ---- old rows

abbrev pub is_original : Originals → ℕ → Bool
is_original originals row = is_stamped originals.met row

pub record AreOriginals (originals : Originals) (bound : ℕ) : Type 0 where
  pub counted : IsStamping originals.met bound
  pub listed : (n : ℕ) → is_original originals n ≡ true → Contains originals.all.items n
  pub stamped : (n : ℕ) → Contains originals.all.items n → n < bound → is_original originals n ≡ true

-- one more row, if there is one
pub record AddsRow (old new : List ℕ) (row : Option ℕ) : Type 0 where
  pub out : (n : ℕ) → Contains new n → Contains old n ⊎ (row ≡ Some n)
  pub kept : (n : ℕ) → Contains old n → Contains new n
  pub here : (n : ℕ) → row ≡ Some n → Contains new n

-- ---- the search

abbrev pub Listed : (ℕ → List ℕ) → ℕ → ℕ → Type 0
Listed ways d u = Contains (ways u) d

-- the search from a use, with the definitions that wait, and the old rows of those that were found
pub record IsGathering (ways : ℕ → List ℕ) (use_of : ℕ → Option ℕ) (origin : ℕ → Option ℕ) (used bound : ℕ) (seen : Stamps) (waiting all : List ℕ) : Type 0 where
  pub counted : IsStamping seen bound
  pub leads : (d : ℕ) → Contains waiting d → IsFound (Listed ways) use_of used d
  pub come : (d : ℕ) → is_stamped seen d ≡ true → IsFound (Listed ways) use_of used d
  pub begun : (d : ℕ) → Contains (ways used) d → IsMetOrOpen seen waiting d
  pub passed : (d k e : ℕ) → is_stamped seen d ≡ true → use_of d ≡ Some k → Contains (ways k) e → IsMetOrOpen seen waiting e
  pub out : (n : ℕ) → Contains all n → IsOriginalOf (Listed ways) use_of origin used n
  pub named : (d n : ℕ) → is_stamped seen d ≡ true → use_of d ≡ None → origin d ≡ Some n → Contains all n

pub record CanGather (gathering : Gathering) (old new : ℕ) : Type 0 where
  pub counted : IsStamping gathering.seen new
  pub originals : AreOriginals gathering.originals old

-- just the old rows of the definitions that reach the use
abbrev pub AreOriginalsOf : (ℕ → List ℕ) → (ℕ → Option ℕ) → (ℕ → Option ℕ) → ℕ → List ℕ → Type 0
AreOriginalsOf ways use_of origin used all = (n : ℕ) → (Contains all n → IsOriginalOf (Listed ways) use_of origin used n) × (IsOriginalOf (Listed ways) use_of origin used n → Contains all n)
