-- The graph of a body in which a call is followed by the body of a method.
use Rattle.std.specs.Prelude.{◌≡◌, ℕ, zero, suc, ◌+◌, ◌<◌, Bool, true, false, not, List, [], ◌∷◌, ◌++◌, length, Some, if◌then◌else◌, slice_get}
use Rattle.std.specs.List.{Contains}
use Rattle.jr_flow_defs.specs.declared.point.Point.{Point}
use Rattle.jr_flow_defs.specs.declared.point.PointKind.TheVariants as kind
use Rattle.jr_flow_defs.specs.Paths.{Flow, IsReached, IsPoint, Steps}
use Rattle.jr_flow_defs.specs.Edges.{point, own_number}
use Rattle.jr_flow_defs.specs.Graphs.{StepList}
use Rattle.jr_flow_defs.specs.Kept.{is_call_at}
use Rattle.jr_flow.specs.declared.point.Graph as code
use Rattle.jr_flow.specs.Reached.{steps_of}
use Rattle.jr_kept.specs.declared.lists.Lists.{Lists}
use Rattle.jr_kept.specs.Listed.{under_in}

-- ---- the points

-- the numbers of those at which the call acts, of the first ones
abbrev pub calls_below : List Point → ℕ → ℕ → List ℕ
calls_below points call zero = []
calls_below points call (suc n) = calls_below points call n ++ (if is_call_at call (slice_get points n) then n ∷ [] else [])

abbrev pub calls_in : List Point → ℕ → List ℕ
calls_in points call = calls_below points call (length points)

-- so many copies, one behind the other
abbrev pub copies : ℕ → List Point → List Point
copies zero points = []
copies (suc n) points = points ++ copies n points

-- the number of the first point of a copy, where so many points stand before the first copy
abbrev pub base_at : ℕ → ℕ → ℕ → ℕ
base_at count size zero = count
base_at count size (suc turn) = base_at (count + size) size turn

-- ---- lists of steps

abbrev pub is_same_way : Bool → Bool → Bool
is_same_way thrown true = thrown
is_same_way thrown false = not thrown

-- the ends of the steps that are throws, or of the others
abbrev pub ends_by : Bool → StepList → List (ℕ × ℕ)
ends_by t [] = []
ends_by t (s ∷ steps) = (if is_same_way s.2 t then (s.0, s.1) ∷ [] else []) ++ ends_by t steps

abbrev pub AreTargets : Lists → ℕ → StepList → Bool → Type 0
AreTargets lists count steps t = (i j : ℕ) → i < count → (Contains (under_in lists i) j → Contains steps (i, j, t)) × (Contains steps (i, j, t) → Contains (under_in lists i) j)

pub record IsLeaving (plain thrown : Lists) (count : ℕ) (steps : StepList) : Type 0 where
  pub completing : AreTargets plain count steps false
  pub throwing : AreTargets thrown count steps true

abbrev pub outside_calls : List Point → ℕ → StepList → StepList
outside_calls points call [] = []
outside_calls points call (s ∷ steps) = (if is_call_at call (slice_get points s.0) then [] else s ∷ []) ++ outside_calls points call steps

abbrev pub shifted : ℕ → StepList → StepList
shifted base [] = []
shifted base (s ∷ steps) = (base + s.0, base + s.1, s.2) ∷ shifted base steps

abbrev pub leading : ℕ → Bool → List ℕ → StepList
leading from t [] = []
leading from t (to ∷ targets) = (from, to, t) ∷ leading from t targets

-- the call goes to the entry of the copy, and its exits go where the call goes in the same way
abbrev pub of_call : List ℕ → List ℕ → StepList → ℕ → ℕ → StepList
of_call plain thrown inner call base = leading call false (base ∷ []) ++ (shifted base inner ++ (leading (base + 1) false plain ++ leading (base + 2) true thrown))

abbrev pub of_calls : (ℕ → List ℕ) → (ℕ → List ℕ) → StepList → ℕ → List ℕ → ℕ → StepList
of_calls plain thrown inner size [] base = []
of_calls plain thrown inner size (call ∷ calls) base = of_call (plain call) (thrown call) inner call base ++ of_calls plain thrown inner size calls (base + size)

-- ---- the steps

abbrev pub exit_number : Bool → ℕ
exit_number true = 2
exit_number false = 1

-- a step of the body that does not leave the call; one from the call to the entry of its copy of the method; one of the method in a copy; or one from an exit of a copy
pub data IsJoinedStep (points : List Point) (call size : ℕ) (outer inner : StepList) (i j : ℕ) (t : Bool) : Type 0 where
  around : Contains outer (i, j, t) → is_call_at call (slice_get points i) ≡ false → IsJoinedStep points call size outer inner i j t
  enters : (s : ℕ) → slice_get (calls_in points call) s ≡ Some i → j ≡ base_at (length points) size s → t ≡ false → IsJoinedStep points call size outer inner i j t
  within : (s k a b : ℕ) → slice_get (calls_in points call) s ≡ Some k → Contains inner (a, b, t) → i ≡ base_at (length points) size s + a → j ≡ base_at (length points) size s + b → IsJoinedStep points call size outer inner i j t
  leaves : (s k : ℕ) → slice_get (calls_in points call) s ≡ Some k → Contains outer (k, j, t) → i ≡ base_at (length points) size s + exit_number t → IsJoinedStep points call size outer inner i j t

abbrev pub AreJoinedSteps : List Point → ℕ → ℕ → StepList → StepList → StepList → Type 0
AreJoinedSteps points call size outer inner steps = (i j : ℕ) (t : Bool) → (Contains steps (i, j, t) → IsJoinedStep points call size outer inner i j t) × (IsJoinedStep points call size outer inner i j t → Contains steps (i, j, t))

pub record IsJoined (call : ℕ) (outer inner whole : code.Graph) : Type 0 where
  pub points_are : whole.points.items ≡ outer.points.items ++ copies (length (calls_in outer.points.items call)) inner.points.items
  pub steps_are : AreJoinedSteps outer.points.items call (length inner.points.items) (steps_of outer) (steps_of inner) (steps_of whole)

-- ---- a graph that may have points which control does not reach

pub record IsLooseGraph {A : Type 0} (f : Flow A) (body : ℕ) (points : List Point) (steps : StepList) : Type 0 where
  pub number : A → ℕ
  pub begins : IsPoint f f.start
  pub first : number f.start ≡ 0
  pub entry : slice_get points 0 ≡ point body kind.Entry
  pub exit : slice_get points 1 ≡ point body kind.Exit
  pub thrown : slice_get points 2 ≡ point body kind.Thrown
  pub own : (a : A) (k : ℕ) (x : Point) → IsReached f a → f.point a ≡ Some x → x.row ≡ body → own_number x.kind ≡ Some k → number a ≡ k
  pub stands : (a : A) (x : Point) → IsReached f a → f.point a ≡ Some x → slice_get points (number a) ≡ Some x
  pub apart : (a b : A) (x y : Point) → IsReached f a → f.point a ≡ Some x → IsReached f b → f.point b ≡ Some y → number a ≡ number b → a ≡ b
  pub only : (i j : ℕ) (t : Bool) → Contains steps (i, j, t) → (a : A) → IsReached f a → IsPoint f a → number a ≡ i → (b : A) × (number b ≡ j) × Steps f a b t
  pub every : (a b : A) (t : Bool) → IsReached f a → Steps f a b t → Contains steps (number a, number b, t)
