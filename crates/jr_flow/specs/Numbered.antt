-- The numbers of points at places.
use Rattle.std.specs.Prelude.{◌≡◌, ◌⊎◌, ℕ, suc, ◌<◌, ◌≤◌, Bool, true, false, not, List, [], ◌∷◌, length, Option, Some, None, slice_get}
use Rattle.jr_flow_defs.specs.declared.point.Point.{Point}
use Rattle.jr_flow_defs.specs.declared.point.PointKind.TheVariants as kind
use Rattle.jr_flow_defs.specs.Edges.{point, own_number}
use Rattle.jr_flow.specs.declared.numbering.Numbering.{Numbering}
use Rattle.jr_flow.specs.declared.point.FlowFault.{FlowFault}
use Rattle.jr_flow.specs.declared.point.FlowFault.TheVariants as fault

abbrev pub points_in : Numbering → List Point
points_in numbering = numbering.points.items

abbrev pub numbers_in : Numbering → List (Option ℕ)
numbers_in numbering = numbering.numbers.items

abbrev pub taken_in : Numbering → List Bool
taken_in numbering = numbering.taken.items

abbrev pub same_number : Option ℕ → Option ℕ
same_number o = o

-- a number is one of those of the entry and the exits, and control did not come there
abbrev pub is_free : Option Bool → Bool
is_free (Some is_taken) = not is_taken
is_free None = false

-- an entry and an exit stand at the row of the body
abbrev pub IsAtBody : ℕ → Point → Type 0
IsAtBody body x = (k : ℕ) → own_number x.kind ≡ Some k → x.row ≡ body

abbrev pub AddsPoint : ℕ → Option Point → Type 0
AddsPoint body (Some x) = IsAtBody body x
AddsPoint body None = Unit {0}

-- the entry and the exits have the first numbers
pub record HasOwn (body : ℕ) (numbering : Numbering) : Type 0 where
  pub entry : slice_get (points_in numbering) 0 ≡ point body kind.Entry
  pub exit : slice_get (points_in numbering) 1 ≡ point body kind.Exit
  pub thrown : slice_get (points_in numbering) 2 ≡ point body kind.Thrown
  pub three : length (taken_in numbering) ≡ 3

-- the number is that of a point to which control comes
pub record IsTaken (numbering : Numbering) (k : ℕ) : Type 0 where
  pub inside : k < length (points_in numbering)
  pub own : k < 3 → slice_get (taken_in numbering) k ≡ Some true

-- the point has this number, which no other point has
pub record TakesNumber (old new : Numbering) (x : Point) (n : ℕ) : Type 0 where
  pub kept : (k : ℕ) (y : Point) → slice_get (points_in old) k ≡ Some y → slice_get (points_in new) k ≡ Some y
  pub stands : slice_get (points_in new) n ≡ Some x
  pub own : (k : ℕ) → own_number x.kind ≡ Some k → n ≡ k
  pub fresh : (k : ℕ) → IsTaken old k → k ≡ n → ⊥
  pub still : (k : ℕ) → IsTaken old k → IsTaken new k
  pub is_taken : IsTaken new n
  pub every : (k : ℕ) → 3 ≤ k → k < length (points_in new) → (k < length (points_in old)) ⊎ (k ≡ n)
  pub three : length (taken_in new) ≡ 3
  pub numbers : numbers_in new ≡ numbers_in old

-- the number is that of what stands at a place
abbrev pub Matches : List Point → Option Point → Option ℕ → Type 0
Matches points (Some x) (Some k) = (slice_get points k ≡ Some x) × ((j : ℕ) → own_number x.kind ≡ Some j → k ≡ j)
Matches points None None = Unit {0}
Matches points _ _ = ⊥

-- of what stands at each place the number is there, and each point but the entry and the exits stands at one
pub record HaveNumbers (body : ℕ) (numbering : Numbering) (found : List (Option Point)) : Type 0 where
  pub own : HasOwn body numbering
  pub size : length (numbers_in numbering) ≡ length found
  pub matched : (i : ℕ) (o : Option Point) (n : Option ℕ) → slice_get found i ≡ Some o → slice_get (numbers_in numbering) i ≡ Some n → Matches (points_in numbering) o n
  pub apart : (i j k : ℕ) → slice_get (numbers_in numbering) i ≡ Some (Some k) → slice_get (numbers_in numbering) j ≡ Some (Some k) → i ≡ j
  pub every : (k : ℕ) → 3 ≤ k → k < length (points_in numbering) → (i : ℕ) × (slice_get (numbers_in numbering) i ≡ Some (Some k))
  pub taken : (i k : ℕ) → slice_get (numbers_in numbering) i ≡ Some (Some k) → IsTaken numbering k

-- how many of them are points
abbrev pub count_points : List (Option Point) → ℕ
count_points [] = 0
count_points (None ∷ rest) = count_points rest
count_points (Some x ∷ rest) = suc (count_points rest)

-- so it is, and no more points were found than there may be
pub record ArePointed (body : ℕ) (numbering : Numbering) (found : List (Option Point)) : Type 0 where
  pub are : HaveNumbers body numbering found
  pub counted : numbering.count ≡ count_points found
  pub most : numbering.count ≤ 65536

-- ---- why there is no number

-- the fault is that of too many points where this holds alone
abbrev pub OnlyWhere : Type 0 → FlowFault → Type 0
OnlyWhere P fault.TooManyPoints = P
OnlyWhere P fault.OutOfMemory = Unit {0}
