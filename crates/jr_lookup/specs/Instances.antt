-- The member that holds a place, and the ways out of classes that have an instance there (JLS 8.1.3).
use Rattle.std.specs.Prelude.{◌≡◌, ℕ, Bool, ◌+◌, ◌<◌, ◌≤◌, Option, Some, None, if◌then◌else◌}
use Rattle.jr_tree.specs.Rows.{Rows, parent, end}
use Rattle.jr_defs.specs.Enclosing.{BodyOf, DeclaredIn, Innermost}
use Rattle.jr_defs.specs.Modifiers.{IsInner}
use Rattle.jr_defs.specs.Instances.{HasInstance}
use Rattle.jr_plain.specs.Enclosing.{declaring_type}
use Rattle.jr_plain.specs.Modifiers.{is_inner}

-- the member m, in the body of the type c, holds the place
pub record IsMemberRound (p : Rows) (o c m : ℕ) : Type 0 where
  pub of_type : BodyOf p c (parent p m)
  pub from : m ≤ o
  pub before : o < end p m

-- after so many steps up from the place, still inside the body
pub record IsUp (p : Rows) (o body turn here : ℕ) : Type 0 where
  pub from : here ≤ o
  pub before : o < end p here
  pub below : body < here
  pub few : here + turn ≤ o

-- the innermost class round the place, where that has an instance there
pub record IsInstanceRound (p : Rows) (o c : ℕ) : Type 0 where
  pub innermost : Innermost p o c
  pub instance : HasInstance p o c

-- the number, unless this is so
abbrev pub unless : Bool → ℕ → Option ℕ
unless b n = if b then None else Some n

-- the class whose objects enclose those of an inner class
abbrev pub enclosing_class : Rows → ℕ → Option ℕ
enclosing_class p h = if is_inner p h then declaring_type p h else None

-- from h out to c by enclosing instances
pub data IsOut (p : Rows) : ℕ → ℕ → Type 0 where
  here : {c : ℕ} → IsOut p c c
  further : {h e c : ℕ} → IsInner p h → DeclaredIn p e h → IsOut p e c → IsOut p h c

-- after so many ways out the next class has an instance, and c has one where it stands further out
pub record IsSeeking (p : Rows) (o c turn : ℕ) (around : Option ℕ) : Type 0 where
  pub sound : (h : ℕ) → around ≡ Some h → HasInstance p o h
  pub told : HasInstance p o c → (h : ℕ) × (around ≡ Some h) × IsOut p h c
  pub few : (h : ℕ) → around ≡ Some h → h + turn < o
