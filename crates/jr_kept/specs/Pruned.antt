-- A graph without the points that control does not reach.
use Rattle.std.specs.Prelude.{◌≡◌, ℕ, ◌<◌, ◌≤◌, Bool, true, ◌||◌, List, [], ◌∷◌, ◌++◌, length, Option, Some, None, if◌then◌else◌, nat_lt, slice_get}
use Rattle.std.specs.List.{Contains}
use Rattle.jr_places.specs.declared.stamps.Stamps.{Stamps}
use Rattle.jr_places.specs.Stamps.{is_stamped, IsStamping}
use Rattle.jr_flow_defs.specs.declared.point.Point.{Point}
use Rattle.jr_flow_defs.specs.Graphs.{StepList}
use Rattle.jr_kept.specs.Searched.{IsMetOrOpen}

-- ---- what is reached

-- steps lead from the first of so many points to the one of the number, or it is the first
pub data IsArrived (count : ℕ) (steps : StepList) : ℕ → Type 0 where
  first : 0 < count → IsArrived count steps 0
  on : {i j : ℕ} (t : Bool) → IsArrived count steps i → Contains steps (i, j, t) → j < count → IsArrived count steps j

abbrev pub AreArrived : Stamps → ℕ → StepList → Type 0
AreArrived met count steps = (k : ℕ) → (is_stamped met k ≡ true → IsArrived count steps k) × (IsArrived count steps k → is_stamped met k ≡ true)

-- the search from the first point, with the numbers that wait
pub record IsArriving (count : ℕ) (steps : StepList) (met : Stamps) (waiting : List ℕ) : Type 0 where
  pub counted : IsStamping met count
  pub come : (k : ℕ) → is_stamped met k ≡ true → IsArrived count steps k
  pub leads : (k : ℕ) → Contains waiting k → k < count → IsArrived count steps k
  pub begun : 0 < count → IsMetOrOpen met waiting 0
  pub passed : (i j : ℕ) (t : Bool) → is_stamped met i ≡ true → Contains steps (i, j, t) → j < count → IsMetOrOpen met waiting j

-- ---- what is left of the points

-- the entry and the exits, and what is reached
abbrev pub is_left : Stamps → ℕ → Bool
is_left met k = nat_lt k 3 || is_stamped met k

-- the points that are left of the first ones, and the number that each of these has among them, if it is left
pub record AreNumbered (points : List Point) (met : Stamps) (n : ℕ) (left : List Point) (numbers : List (Option ℕ)) : Type 0 where
  pub size : length numbers ≡ n
  pub begun : n ≤ 3 → length left ≡ n
  pub own : (k : ℕ) → k < n → k < 3 → slice_get numbers k ≡ Some (Some k)
  pub has : (k : ℕ) (x : Point) → k < n → slice_get points k ≡ Some x → is_left met k ≡ true → (j : ℕ) × (slice_get numbers k ≡ Some (Some j)) × (slice_get left j ≡ Some x)
  pub back : (j : ℕ) → j < length left → (k : ℕ) × (k < n) × (is_left met k ≡ true) × (slice_get numbers k ≡ Some (Some j))
  pub few : (k j : ℕ) → slice_get numbers k ≡ Some (Some j) → j < length left
  pub apart : (k l j : ℕ) → slice_get numbers k ≡ Some (Some j) → slice_get numbers l ≡ Some (Some j) → k ≡ l

-- ---- what is left of the steps

abbrev pub one_number : Option (Option ℕ) → Option ℕ
one_number None = None
one_number (Some number) = number

abbrev pub number_in : List (Option ℕ) → ℕ → Option ℕ
number_in numbers k = one_number (slice_get numbers k)

-- that of a point that is reached
abbrev pub number_from : Stamps → List (Option ℕ) → ℕ → Option ℕ
number_from met numbers k = if is_stamped met k then number_in numbers k else None

abbrev pub between : Option ℕ → Option ℕ → Bool → StepList
between None to t = []
between (Some i) None t = []
between (Some i) (Some j) t = (i, j, t) ∷ []

abbrev pub left_step : Stamps → List (Option ℕ) → ℕ × ℕ × Bool → StepList
left_step met numbers s = between (number_from met numbers s.0) (number_in numbers s.1) s.2

abbrev pub left_steps : Stamps → List (Option ℕ) → StepList → StepList
left_steps met numbers [] = []
left_steps met numbers (s ∷ steps) = left_step met numbers s ++ left_steps met numbers steps

-- the points and steps that are left
pub record IsPruned (points : List Point) (steps : StepList) (left : List Point) (rest : StepList) : Type 0 where
  pub met : Stamps
  pub numbers : List (Option ℕ)
  pub arrived : AreArrived met (length points) steps
  pub numbered : AreNumbered points met (length points) left numbers
  pub rest_is : rest ≡ left_steps met numbers steps
