-- Flows: places that control may come to, with what stands there; paths, and steps from point to point.
use Rattle.std.specs.Prelude.{◌≡◌, Bool, List, Option, Some}
use Rattle.std.specs.List.{Contains}
use Rattle.jr_flow_defs.specs.declared.point.Point.{Point}
use Rattle.jr_flow_defs.specs.States.{Hop}

-- a flow: the place at which control begins, where it goes from each, and the point that stands there, if one does
pub record Flow (A : Type 0) : Type 0 where
  pub start : A
  pub hops : A → List (Hop A)
  pub point : A → Option Point

-- control goes from a to b, whether by a throw that happens at a or not
pub record Goes {A : Type 0} (f : Flow A) (a b : A) : Type 0 where
  pub is_throw : Bool
  pub hop : Contains (f.hops a) (record { to = b; is_throw = is_throw })

-- control comes to the place
pub data IsReached {A : Type 0} (f : Flow A) : A → Type 0 where
  start : IsReached f f.start
  on : {a b : A} → IsReached f a → Goes f a b → IsReached f b

-- a path of one hop or more from a, with nothing between its ends that stops it
pub data Path {A : Type 0} (f : Flow A) (Stops : A → Type 0) (a : A) : A → Type 0 where
  hop : {b : A} → Goes f a b → Path f Stops a b
  on : {r b : A} → Path f Stops a r → (Stops r → ⊥) → Goes f r b → Path f Stops a b

-- a point stands at the place
pub record IsPoint {A : Type 0} (f : Flow A) (a : A) : Type 0 where
  pub point : Point
  pub stands : f.point a ≡ Some point

-- control comes from a to the point at b, which may be a itself, over no other point
pub data Onward {A : Type 0} (f : Flow A) : A → A → Type 0 where
  here : {a : A} → IsPoint f a → Onward f a a
  on : {a r b : A} → (IsPoint f a → ⊥) → Goes f a r → Onward f r b → Onward f a b

-- a step between points: one hop, and on to the first point behind it. It is a throw where the hop is one.
pub record Steps {A : Type 0} (f : Flow A) (a b : A) (is_throw : Bool) : Type 0 where
  pub from : IsPoint f a
  pub next : A
  pub hop : Contains (f.hops a) (record { to = next; is_throw = is_throw })
  pub onward : Onward f next b
