-- Points that ways reach without coming to a barred one.
use Rattle.std.specs.Prelude.{◌≡◌, ◌⊎◌, ℕ, ◌<◌, true, false, List}
use Rattle.std.specs.List.{Contains}
use Rattle.jr_places.specs.declared.stamps.Stamps.{Stamps}
use Rattle.jr_places.specs.Stamps.{is_stamped, IsStamping}
use Rattle.jr_flow_defs.specs.Graphs.{StepList}
use Rattle.jr_flow.specs.declared.point.Step as code_step
use Rattle.jr_kept.specs.declared.lists.Lists.{Lists}
use Rattle.jr_kept.specs.Listed.{under_in}
use Rattle.jr_kept.specs.Searched.{HasStepTo, IsMetOrOpen}

abbrev pub back_of : code_step.Step → ℕ × ℕ
back_of s = (s.to, s.from)

-- under each point stand those from which steps lead to it
abbrev pub AreWaysBack : Lists → ℕ → StepList → Type 0
AreWaysBack ways count steps = (i j : ℕ) → i < count → (Contains (under_in ways i) j → HasStepTo steps j i) × (HasStepTo steps j i → Contains (under_in ways i) j)

-- ways of one step or more lead to the point, and come to no barred one; the points are below a bound
pub data IsSpread (ways : ℕ → List ℕ) (from : List ℕ) (barred : Stamps) (bound : ℕ) : ℕ → Type 0 where
  first : {i k : ℕ} → Contains from i → Contains (ways i) k → k < bound → is_stamped barred k ≡ false → IsSpread ways from barred bound k
  on : {i k : ℕ} → IsSpread ways from barred bound i → Contains (ways i) k → k < bound → is_stamped barred k ≡ false → IsSpread ways from barred bound k

-- each of them was met
abbrev pub AreSpread : (ℕ → List ℕ) → List ℕ → Stamps → ℕ → Stamps → Type 0
AreSpread ways from barred bound met = (k : ℕ) → IsSpread ways from barred bound k → is_stamped met k ≡ true

-- and no other point
abbrev pub OnlySpread : (ℕ → List ℕ) → List ℕ → Stamps → ℕ → Stamps → Type 0
OnlySpread ways from barred bound met = (k : ℕ) → is_stamped met k ≡ true → IsSpread ways from barred bound k

-- a way leads to the point from one of these
pub record IsNext (ways : ℕ → List ℕ) (from : List ℕ) (k : ℕ) : Type 0 where
  pub at : ℕ
  pub among : Contains from at
  pub leads : Contains (ways at) k

-- of the points that wait each waited before, or is next to one of these
abbrev pub AreNext : (ℕ → List ℕ) → List ℕ → List ℕ → List ℕ → Type 0
AreNext ways from old new = (k : ℕ) → Contains new k → Contains old k ⊎ IsNext ways from k

-- the search, with the points that wait
pub record IsSpreading (ways : ℕ → List ℕ) (from : List ℕ) (barred : Stamps) (bound : ℕ) (met : Stamps) (waiting : List ℕ) : Type 0 where
  pub counted : IsStamping met bound
  pub begun : (i k : ℕ) → Contains from i → Contains (ways i) k → k < bound → is_stamped barred k ≡ false → IsMetOrOpen met waiting k
  pub passed : (i k : ℕ) → is_stamped met i ≡ true → Contains (ways i) k → k < bound → is_stamped barred k ≡ false → IsMetOrOpen met waiting k
  pub sound : OnlySpread ways from barred bound met
  pub waits : (k : ℕ) → Contains waiting k → k < bound → is_stamped barred k ≡ false → IsSpread ways from barred bound k
