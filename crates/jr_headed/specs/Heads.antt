-- Rows whose headers stand as they do in programs, and one Object.
use Rattle.std.specs.Prelude.{ℕ, ◌<◌, ◌^◌, Bool, true, false, not, ◌&&◌, ◌||◌, List, length, Option, Some, None, nat_eq, nat_lt}
use Rattle.std.specs.List.{AllByRecursion}
use Rattle.jr_tree.specs.declared.tree.Unit as declared_unit
use Rattle.jr_tree.specs.Shape.{IsShaped}
use Rattle.jr_tree.specs.Rows.{Rows, label, parent, program_rows}
use Rattle.jr_plain.specs.Headed.{IsHeaded}
use Rattle.jr_plain.specs.Declarations.{is_object}
use Rattle.jr_supers.specs.declared.supers.HeaderPlace.{HeaderPlace}
use Rattle.jr_supers.specs.Above.{HasNoOtherObject}
use Rattle.jr_supers.specs.Direct.{header_place, SuperclassesStandFirst}
use Rattle.jr_supers.specs.Tabled.{dims_of, dims_made}
use Rattle.jr_members.specs.Held.{ObjectIsBare}

-- the law: the names in headers stand below types, and that of a superclass first
abbrev pub ProgramsAreHeaded : Type 0
ProgramsAreHeaded = (units : List declared_unit.Unit) → AllByRecursion IsShaped units → IsHeaded (program_rows units) × SuperclassesStandFirst (program_rows units)

-- fewer rows than 2^32, and one Object, which names nothing in its header
pub record HasBareObject (p : Rows) : Type 0 where
  pub few : length p < 2 ^ 32
  pub one : HasNoOtherObject p
  pub bare : ObjectIsBare p

-- a name that does not stand in the header of Object
abbrev pub is_bare_by : Option HeaderPlace → Bool → Bool
is_bare_by None of_object = true
is_bare_by (Some at) of_object = not of_object

abbrev pub is_bare_at : Rows → ℕ → Bool
is_bare_at p n = is_bare_by (header_place (label p n)) (is_object p (parent p n))

abbrev pub is_that : Option ℕ → ℕ → Bool
is_that None n = false
is_that (Some x) n = nat_eq x n

abbrev pub is_only : Rows → Option ℕ → ℕ → Bool
is_only p object n = is_that object n || not (is_object p n)

abbrev pub is_well_at : Rows → Option ℕ → ℕ → Bool
is_well_at p object n = is_bare_at p n && is_only p object n

abbrev pub is_shallow_at : Rows → ℕ → Bool
is_shallow_at p n = nat_lt (dims_of (label p n)) (2 ^ 63)

abbrev pub is_counted_at : Rows → ℕ → Bool
is_counted_at p n = nat_lt (dims_made (label p n)) (2 ^ 64)

abbrev pub is_sized_at : Rows → ℕ → Bool
is_sized_at p n = is_shallow_at p n && is_counted_at p n
