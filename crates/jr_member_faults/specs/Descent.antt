-- What goes down from types to their subtypes (JLS 8.4.8, 9.1.3).
use Rattle.std.specs.Prelude.{◌≡◌, ◌⊎◌, ℕ, Bool, true, false, not, List, Some}
use Rattle.jr_tree.specs.Rows.{Rows}
use Rattle.jr_defs.specs.Referents.{Table}
use Rattle.jr_defs.specs.Declarations.{IsInterface}
use Rattle.jr_defs.specs.Enclosing.{DeclaredIn}
use Rattle.jr_defs.specs.Modifiers.{IsPublic, IsProtected, IsPrivate}
use Rattle.jr_defs.specs.Packages.{SamePackage}
use Rattle.jr_defs.specs.Supertypes.{Super}
use Rattle.jr_plain.specs.Search.{has}
use Rattle.jr_plain.specs.Declarations.{is_interface}
use Rattle.jr_places.specs.declared.chains.Entry.{Entry}
use Rattle.jr_places.specs.Places.{package_number}
use Rattle.jr_members.specs.declared.members.World.{World}
use Rattle.jr_members.specs.Named.{under}
use Rattle.jr_member_faults.specs.declared.descent.Descent.{Descent}
use Rattle.jr_member_faults.specs.Views.{rows_of, table_of}

-- ---- classes above interfaces

abbrev pub is_other_type : Rows → ℕ → Bool
is_other_type p s = not (is_interface p s)

-- where c is an interface, its direct supertypes are
abbrev pub HasInterfacesAbove : Rows → Table → ℕ → Type 0
HasInterfacesAbove p t c = (s : ℕ) → Super p t c s → IsInterface p c → IsInterface p s

abbrev pub InterfacesStandBelowInterfaces : Rows → Table → Type 0
InterfacesStandBelowInterfaces p t = (c : ℕ) → HasInterfacesAbove p t c

-- ---- methods that go down

-- the method k stands in the package of its type, and with a type there stand its direct subtypes
pub record StaysInside (p : Rows) (t : Table) (k : ℕ) : Type 0 where
  pub own : (c : ℕ) → DeclaredIn p c k → SamePackage p c k
  pub down : (c s : ℕ) → Super p t c s → SamePackage p s k → SamePackage p c k

-- subtypes reach the method, if it is not private
abbrev pub IsReachedBelow : Rows → Table → ℕ → Type 0
IsReachedBelow p t k = IsPublic p k ⊎ IsProtected p k ⊎ StaysInside p t k

-- types below that of the method inherit it, but where another of its signature stands between
pub record GoesDown (p : Rows) (t : Table) (k : ℕ) : Type 0 where
  pub open_member : IsPrivate p k → ⊥
  pub reached : IsReachedBelow p t k

-- ---- packages with subtypes outside

-- something stands under the number
abbrev pub IsUnder : List Entry → ℕ → Type 0
IsUnder all x = (d : ℕ) × (has (under all x 0) d ≡ true)

abbrev pub KeepsUnder : List Entry → List Entry → Type 0
KeepsUnder old new = (x : ℕ) → IsUnder old x → IsUnder new x

-- the number of the package of s stands there, if c stands in another one
abbrev pub IsOpen : World → ℕ → ℕ → List Entry → Type 0
IsOpen world c s all = SamePackage (rows_of world) c s ⊎ ((x : ℕ) → package_number world.under.places.now s ≡ Some x → IsUnder all x)

pub record Opens (world : World) (c s : ℕ) (old new : List Entry) : Type 0 where
  pub kept : KeepsUnder old new
  pub told : IsOpen world c s new

-- of these, but for the rest
pub record IsOpening (world : World) (c : ℕ) (direct : List ℕ) (old new : List Entry) (rest : List ℕ) : Type 0 where
  pub kept : KeepsUnder old new
  pub told : (s : ℕ) → has direct s ≡ true → IsOpen world c s new ⊎ (has rest s ≡ true)

pub record OpensEach (world : World) (c : ℕ) (direct : List ℕ) (old new : List Entry) : Type 0 where
  pub kept : KeepsUnder old new
  pub told : (s : ℕ) → has direct s ≡ true → IsOpen world c s new

-- of all direct supertypes of c
abbrev pub IsOpenAbove : World → ℕ → List Entry → Type 0
IsOpenAbove world c all = (s : ℕ) → Super (rows_of world) (table_of world) c s → IsOpen world c s all

pub record OpensAbove (world : World) (c : ℕ) (old new : List Entry) : Type 0 where
  pub kept : KeepsUnder old new
  pub told : IsOpenAbove world c new

-- of the types of a list but the rest
abbrev pub AreOpening : World → List ℕ → List Entry → List ℕ → Type 0
AreOpening world order all rest = (c : ℕ) → has order c ≡ true → IsOpenAbove world c all ⊎ (has rest c ≡ true)

-- of all types
abbrev pub AreOpenPackages : World → List Entry → Type 0
AreOpenPackages world all = (c : ℕ) → IsOpenAbove world c all

-- ---- the table

pub record IsDescent (world : World) (descent : Descent) : Type 0 where
  pub interfaces : descent.has_class_above ≡ false → InterfacesStandBelowInterfaces (rows_of world) (table_of world)
  pub packages : AreOpenPackages world descent.open_packages
