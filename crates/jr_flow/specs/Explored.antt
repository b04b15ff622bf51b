-- What is left when a flow was explored: the places that control comes to, with numbers, the hops between them, and the numbers of those that are points.
use Rattle.std.specs.Prelude.{◌≡◌, ℕ, ◌<◌, ◌≤◌, Bool, List, [], ◌∷◌, length, Option, Some, None, option_and_then, slice_get}
use Rattle.std.specs.List.{Contains}
use Rattle.jr_flow_defs.specs.declared.point.Point.{Point}
use Rattle.jr_flow_defs.specs.declared.point.PointKind.TheVariants as kind
use Rattle.jr_flow_defs.specs.States.{Hop}
use Rattle.jr_flow_defs.specs.Paths.{Flow, IsReached, Steps}
use Rattle.jr_flow_defs.specs.Edges.{point, own_number}
use Rattle.jr_flow_defs.specs.Graphs.{StepList}

-- the hop to a place, by the number of the place
pub record IsHopTo {A : Type 0} (places : List A) (h : Hop A) (k : Hop ℕ) : Type 0 where
  pub place : slice_get places k.to ≡ Some h.to
  pub same : k.is_throw ≡ h.is_throw

-- hops one by one by the numbers of their places
pub data AreHops {A : Type 0} (places : List A) : List (Hop A) → List (Hop ℕ) → Type 0 where
  none : AreHops places [] []
  more : {h : Hop A} {k : Hop ℕ} {hs : List (Hop A)} {ks : List (Hop ℕ)} → IsHopTo places h k → AreHops places hs ks → AreHops places (h ∷ hs) (k ∷ ks)

-- the places are those that control comes to, each once, and the hops of each number are those of its place
pub record IsExplored {A : Type 0} (f : Flow A) (places : List A) (hops : ℕ → List (Hop ℕ)) : Type 0 where
  pub start : slice_get places 0 ≡ Some f.start
  pub apart : (i j : ℕ) (a : A) → slice_get places i ≡ Some a → slice_get places j ≡ Some a → i ≡ j
  pub reached : (i : ℕ) (a : A) → slice_get places i ≡ Some a → IsReached f a
  pub hops_are : (i : ℕ) (a : A) → slice_get places i ≡ Some a → AreHops places (f.hops a) (hops i)

-- the flow over the numbers of places
abbrev pub by_number : {A : Type 0} → Flow A → List A → (ℕ → List (Hop ℕ)) → Flow ℕ
by_number f places hops = record { start = 0; hops = hops; point = λ i. option_and_then f.point (slice_get places i) }

-- the numbers of points: 0, 1 and 2 for the entry and the exits of the body, and the others each for one place
pub record ArePoints {A : Type 0} (f : Flow A) (body : ℕ) (places : List A) (points : List Point) (number : ℕ → Option ℕ) : Type 0 where
  pub entry : slice_get points 0 ≡ point body kind.Entry
  pub exit : slice_get points 1 ≡ point body kind.Exit
  pub thrown : slice_get points 2 ≡ point body kind.Thrown
  pub numbered : (i : ℕ) (a : A) (x : Point) → slice_get places i ≡ Some a → f.point a ≡ Some x → (k : ℕ) × (number i ≡ Some k) × (slice_get points k ≡ Some x)
  pub own : (i : ℕ) (a : A) (x : Point) (k : ℕ) → slice_get places i ≡ Some a → f.point a ≡ Some x → x.row ≡ body → own_number x.kind ≡ Some k → number i ≡ Some k
  pub only : (i k : ℕ) → number i ≡ Some k → (a : A) × (x : Point) × (slice_get places i ≡ Some a) × (f.point a ≡ Some x)
  pub apart : (i j k : ℕ) → number i ≡ Some k → number j ≡ Some k → i ≡ j
  pub all : (k : ℕ) → 3 ≤ k → k < length points → (i : ℕ) × (number i ≡ Some k)

-- a step between the points of two numbers, over places by number
pub record HasNumberedStep (g : Flow ℕ) (number : ℕ → Option ℕ) (m n : ℕ) (is_throw : Bool) : Type 0 where
  pub from : ℕ
  pub to : ℕ
  pub starts : number from ≡ Some m
  pub ends : number to ≡ Some n
  pub steps : Steps g from to is_throw

-- the steps are those over places, by the numbers of their points
pub record AreSteps (g : Flow ℕ) (number : ℕ → Option ℕ) (steps : StepList) : Type 0 where
  pub only : (m n : ℕ) (is_throw : Bool) → Contains steps (m, n, is_throw) → HasNumberedStep g number m n is_throw
  pub every : (m n : ℕ) (is_throw : Bool) → HasNumberedStep g number m n is_throw → Contains steps (m, n, is_throw)
