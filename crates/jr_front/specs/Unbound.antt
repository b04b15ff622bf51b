-- The order of places, and which occurrence without one declaration is the first (JLS 6.5).
use Rattle.std.specs.Prelude.{◌≡◌, ◌⊎◌, ℕ, ◌<◌, Bool, true, false, Option, None, Some}
use Rattle.jr_base.specs.declared.token.Place.{Place}
use Rattle.jr_defs.specs.declared.referent.Referent.{Referent}
use Rattle.jr_defs.specs.declared.referent.Referent.TheVariants.{Unbound, Ambiguous}
use Rattle.jr_defs.specs.Referents.{Table}
use Rattle.jr_defs.specs.Declarations.{IsOccurrence}
use Rattle.jr_marks.specs.Places.{place_of_name}
use Rattle.jr_marks.specs.declared.marks.Marks.{Marks}

-- a place in an earlier unit, or at a lower offset of one unit
abbrev pub IsBefore : Place → Place → Type 0
IsBefore one other = (one.cu.0 < other.cu.0) ⊎ ((one.cu.0 ≡ other.cu.0) × (one.at < other.at))

-- the one that comes first of the best so far, if there is one, and another place; the best of two that are one
abbrev pub IsEarlier : Option Place → Place → Place → Type 0
IsEarlier None place first = first ≡ place
IsEarlier (Some best) place first = (IsBefore place best × (first ≡ place)) ⊎ ((IsBefore place best → ⊥) × (first ≡ best))

-- nothing, or more than one thing
abbrev pub is_lost : Referent → Bool
is_lost Unbound = true
is_lost Ambiguous = true
is_lost _ = false

-- an occurrence that refers to nothing, or to more than one thing
pub record IsLost (m : Marks) (t : Table) (row : ℕ) : Type 0 where
  pub refers : IsOccurrence m.rows.now row
  pub lost : (t row ≡ Unbound) ⊎ (t row ≡ Ambiguous)

-- the place of an occurrence that is lost, and none that is lost comes before it
pub record IsFirstLost (m : Marks) (t : Table) (place : Place) : Type 0 where
  pub row : ℕ
  pub lost : IsLost m t row
  pub at : place ≡ place_of_name m row
  pub first : (other : ℕ) → IsLost m t other → IsBefore (place_of_name m other) place → ⊥
