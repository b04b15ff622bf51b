-- Overriding, and the method that a call finds in a class (JLS 8.4.8.1, 15.12.4.4).
use Rattle.std.specs.Prelude.{◌≡◌, ◌⊎◌, ℕ, ◌≤◌}
use Rattle.jr_tree.specs.declared.label.Role.TheVariants as role
use Rattle.jr_tree.specs.Rows.{Rows, role_at}
use Rattle.jr_defs.specs.Referents.{Table}
use Rattle.jr_defs.specs.Declarations.{IsType, IsClass, IsInterface, IsObject}
use Rattle.jr_defs.specs.Enclosing.{DeclaredIn}
use Rattle.jr_defs.specs.Modifiers.{IsPublic, IsProtected, IsPrivate, IsStatic, InInterface}
use Rattle.jr_defs.specs.Packages.{SamePackage}
use Rattle.jr_defs.specs.Supertypes.{NamesSuperclass, Above, AtOrAbove, Superclass}
use Rattle.jr_defs.specs.Members.{SameMethods, MemberOf}

-- an instance method m and a method k of its signature, not private, in a type strictly above; an interface has of Object its public methods alone (JLS 9.2)
pub record IsAboveMethod (p : Rows) (t : Table) (m k : ℕ) : Type 0 where
  pub signatures : SameMethods p t m k
  pub instance : IsStatic p m → ⊥
  pub type : ℕ
  pub declared : DeclaredIn p type m
  pub upper : ℕ
  pub declares : DeclaredIn p upper k
  pub above : Above p t type upper
  pub reached : IsPrivate p k → ⊥
  pub from_interface : InInterface p m → IsPublic p k

-- m overrides k, inherited or not (JLS 8.4.8.1)
pub data Overrides (p : Rows) (t : Table) : ℕ → ℕ → Type 0 where
  direct : {m k : ℕ} → IsAboveMethod p t m k → IsPublic p k ⊎ IsProtected p k ⊎ SamePackage p m k → Overrides p t m k
  through : {m j k : ℕ} → IsAboveMethod p t m k → Overrides p t m j → Overrides p t j k → Overrides p t m k

-- the class has the method: it is a member of the class or of a type above it
pub record Has (p : Rows) (t : Table) (c m : ℕ) : Type 0 where
  pub method : role_at p m ≡ role.Method
  pub holder : ℕ
  pub above : AtOrAbove p t c holder
  pub member : MemberOf p t holder m

-- a method of an interface above c, and a public member of c of its signature
pub record Implements (p : Rows) (t : Table) (c f m : ℕ) : Type 0 where
  pub interface : ℕ
  pub is_interface : IsInterface p interface
  pub above : Above p t c interface
  pub declared : DeclaredIn p interface m
  pub member : MemberOf p t c f
  pub public : IsPublic p f
  pub signatures : SameMethods p t f m

-- f serves a call of m on an object of the class c
pub data Serves (p : Rows) (t : Table) (c m f : ℕ) : Type 0 where
  itself : f ≡ m → Serves p t c m f
  overriding : Overrides p t f m → Serves p t c m f
  implementing : Implements p t c f m → Serves p t c m f

-- the class b declares none that serves
abbrev pub ServesNot : Rows → Table → ℕ → ℕ → ℕ → Type 0
ServesNot p t c m b = (f : ℕ) → DeclaredIn p b f → Serves p t c m f → ⊥

-- of the methods that the class b declares and that serve, f stands first in its text
pub record ServesFirst (p : Rows) (t : Table) (c m b f : ℕ) : Type 0 where
  pub declared : DeclaredIn p b f
  pub serves : Serves p t c m f
  pub first : (g : ℕ) → DeclaredIn p b g → Serves p t c m g → f ≤ g

-- from the class b up its superclasses the first that serves is f; where none does it is m itself
pub data FoundFrom (p : Rows) (t : Table) (c m : ℕ) : ℕ → ℕ → Type 0 where
  here : {b f : ℕ} → ServesFirst p t c m b f → FoundFrom p t c m b f
  up : {b s f : ℕ} → ServesNot p t c m b → Superclass p t b s → FoundFrom p t c m s f → FoundFrom p t c m b f
  end : {b : ℕ} → ServesNot p t c m b → ((s : ℕ) → Superclass p t b s → ⊥) → FoundFrom p t c m b m

-- the method that a call of m finds in the class c (JLS 15.12.4.4)
pub data Found (p : Rows) (t : Table) (c m : ℕ) : ℕ → Type 0 where
  fixed : IsPrivate p m ⊎ IsStatic p m → Found p t c m m
  dispatched : {f : ℕ} → (IsPrivate p m → ⊥) → (IsStatic p m → ⊥) → FoundFrom p t c m c f → Found p t c m f

-- an edge of dispatch: the class has the method, and a call of it finds f
pub record Dispatches (p : Rows) (t : Table) (c m f : ℕ) : Type 0 where
  pub class : IsClass p c
  pub has : Has p t c m
  pub found : Found p t c m f

-- a type names one superclass at most, and there is one Object at most: so a type has at most one superclass
pub record HasOneSuperclass (p : Rows) : Type 0 where
  pub name : (c n m : ℕ) → NamesSuperclass p c n → NamesSuperclass p c m → n ≡ m
  pub object : (r s : ℕ) → IsObject p r → IsObject p s → r ≡ s

-- a call finds one method in a class, under any table
abbrev pub FindsOneMethod : Type 0
FindsOneMethod = (p : Rows) (t : Table) (c m f g : ℕ) → HasOneSuperclass p → Found p t c m f → Found p t c m g → f ≡ g
