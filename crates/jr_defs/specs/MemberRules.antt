-- The rules of compiling on members (JLS 8.1.1.1, 8.4.3, 8.4.6, 8.4.8, 8.8, 9.4), by their numbers in docs/LANGUAGE.md.
use Rattle.std.specs.Prelude.{◌≡◌, ◌⊎◌, ℕ, ◌+◌, ◌<◌, Bool, true, false, IsTrue, Option, codes}
use Rattle.jr_tree.specs.declared.label.Label.{Label}
use Rattle.jr_tree.specs.declared.label.Label.TheVariants as is
use Rattle.jr_tree.specs.declared.label.Modifiers.{Modifiers}
use Rattle.jr_tree.specs.declared.label.NamePlace.TheVariants as place
use Rattle.jr_tree.specs.declared.label.Role.TheVariants as role
use Rattle.jr_tree.specs.Rows.{Rows, label, name, parent, end, role_at}
use Rattle.jr_defs.specs.declared.referent.Referent.TheVariants.{Declared}
use Rattle.jr_defs.specs.Referents.{Table}
use Rattle.jr_defs.specs.Declarations.{IsType, IsClass, IsInterface, IsPrelude}
use Rattle.jr_defs.specs.Enclosing.{DeclaredIn, ConstructorOf, BodyOf}
use Rattle.jr_defs.specs.Modifiers.{written, IsPublic, IsProtected, IsPrivate, IsStatic, IsFinal, IsAbstract, InInterface, IsInner}
use Rattle.jr_defs.specs.Supertypes.{Super, Above, AtOrAbove}
use Rattle.jr_defs.specs.Members.{SameMethods, MemberOf, CanInherit}
use Rattle.jr_defs.specs.Overriding.{Overrides, Found}
use Rattle.jr_defs.specs.Overloads.{ResultFits}
use Rattle.jr_defs.specs.Constants.{HasConstantForm, ConstantVariable}

-- m overrides k, or is a static method that hides k: one of a type above, which is accessible to its own (JLS 8.4.8.1, 8.4.8.2)
pub record Hides (p : Rows) (t : Table) (m k : ℕ) : Type 0 where
  pub signatures : SameMethods p t m k
  pub static : IsStatic p m
  pub type : ℕ
  pub declared : DeclaredIn p type m
  pub upper : ℕ
  pub declares : DeclaredIn p upper k
  pub above : Above p t type upper
  pub reached : CanInherit p type k

pub data RedefinesMethod (p : Rows) (t : Table) (m k : ℕ) : Type 0 where
  overriding : Overrides p t m k → RedefinesMethod p t m k
  hiding : Hides p t m k → RedefinesMethod p t m k

-- how far a member is open: private, package, protected, public (JLS 8.4.8.3)
pub data IsOpenTo (p : Rows) (d : ℕ) : ℕ → Type 0 where
  all : IsPublic p d → IsOpenTo p d 3
  subclasses : IsProtected p d → IsOpenTo p d 2
  nobody : IsPrivate p d → IsOpenTo p d 0
  package_alone : (IsPublic p d → ⊥) → (IsProtected p d → ⊥) → (IsPrivate p d → ⊥) → IsOpenTo p d 1

abbrev pub IsOtherName : Label → Type 0
IsOtherName (is.Name kind place.Other is_qualified) = Unit {0}
IsOtherName _ = ⊥

-- a name right below a method or constructor names a class that it throws (JLS 8.4.6)
pub record Throws (p : Rows) (t : Table) (m n c : ℕ) : Type 0 where
  pub inside : parent p n ≡ m
  pub named : IsOtherName (label p n)
  pub level : Option ℕ
  pub refers : t n ≡ Declared c level

-- Throwable and what is below it, but for Error and RuntimeException and what is below those (JLS 11.2)
pub record IsChecked (p : Rows) (t : Table) (c : ℕ) : Type 0 where
  pub throwable : ℕ
  pub is_throwable : IsPrelude p (codes "Throwable") throwable
  pub below_it : AtOrAbove p t c throwable
  pub no_error : (e : ℕ) → IsPrelude p (codes "Error") e → AtOrAbove p t c e → ⊥
  pub no_runtime : (e : ℕ) → IsPrelude p (codes "RuntimeException") e → AtOrAbove p t c e → ⊥

-- k allows the class: it declares it, or one above it
pub record Allows (p : Rows) (t : Table) (k c : ℕ) : Type 0 where
  pub row : ℕ
  pub class : ℕ
  pub declares : Throws p t k row class
  pub above : AtOrAbove p t c class

-- a method of c that is not abstract, of the signature of m
pub record Implemented (p : Rows) (t : Table) (c m : ℕ) : Type 0 where
  pub by : ℕ
  pub member : MemberOf p t c by
  pub signatures : SameMethods p t by m
  pub public : IsPublic p by
  pub instance : IsStatic p by → ⊥
  pub concrete : IsAbstract p by → ⊥

-- members of the type of one signature, which its body does not declare; the two may be one
pub record InheritsBoth (p : Rows) (t : Table) (c m k : ℕ) : Type 0 where
  pub first : MemberOf p t c m
  pub second : MemberOf p t c k
  pub signatures : SameMethods p t m k
  pub foreign : DeclaredIn p c m → ⊥
  pub foreign_too : DeclaredIn p c k → ⊥

abbrev pub has_body : Label → Bool
has_body (is.Method modifiers is_void body) = body
has_body _ = true

abbrev pub IsInitializer : Label → Type 0
IsInitializer (is.Initializer is_static) = Unit {0}
IsInitializer _ = ⊥

-- a field with an initializer has a row below it
abbrev pub HasInitializer : Rows → ℕ → Type 0
HasInitializer p d = parent p (d + 1) ≡ d

-- the rule is broken at the row
pub data BreaksMembers (p : Rows) (t : Table) : ℕ → ℕ → Type 0 where
  not_implemented : {c m : ℕ} → IsClass p c → (IsAbstract p c → ⊥) → MemberOf p t c m → role_at p m ≡ role.Method → IsAbstract p m → (Implemented p t c m → ⊥) → BreaksMembers p t 14 c
  not_found : {c s m f : ℕ} → IsClass p c → (IsAbstract p c → ⊥) → Above p t c s → IsClass p s → DeclaredIn p s m → role_at p m ≡ role.Method → IsAbstract p m → Found p t c m f → IsAbstract p f
      → BreaksMembers p t 14 c
  other_result : {m k : ℕ} → RedefinesMethod p t m k → (ResultFits p t m k → ⊥) → BreaksMembers p t 15 m
  no_common_result : {c m k : ℕ} → InheritsBoth p t c m k → (IsAbstract p m → ⊥) → (ResultFits p t m k → ⊥) → BreaksMembers p t 15 c
  no_abstract_result : {c m : ℕ} → IsType p c → MemberOf p t c m → role_at p m ≡ role.Method
      → ((k : ℕ) → MemberOf p t c k → SameMethods p t k m → IsAbstract p k × ((l : ℕ) × InheritsBoth p t c k l × (ResultFits p t k l → ⊥))) → BreaksMembers p t 15 c
  narrowed : {m k a b : ℕ} → RedefinesMethod p t m k → IsOpenTo p m a → IsOpenTo p k b → a < b → BreaksMembers p t 16 m
  inherited_narrows : {c m k a b : ℕ} → InheritsBoth p t c m k → (IsAbstract p m → ⊥) → IsOpenTo p m a → IsOpenTo p k b → a < b → BreaksMembers p t 16 c
  static_over_instance : {m k : ℕ} → Hides p t m k → (IsStatic p k → ⊥) → BreaksMembers p t 17 m
  instance_over_static : {m k : ℕ} → Overrides p t m k → IsStatic p k → BreaksMembers p t 17 m
  inherited_static : {c m k : ℕ} → InheritsBoth p t c m k → IsStatic p m → (IsStatic p k → ⊥) → BreaksMembers p t 17 c
  over_final : {m k : ℕ} → RedefinesMethod p t m k → IsTrue (written (label p k)).is_final → BreaksMembers p t 18 m
  throws_more : {m k n c : ℕ} → RedefinesMethod p t m k → Throws p t m n c → IsChecked p t c → (Allows p t k c → ⊥) → BreaksMembers p t 19 m
  inherited_throws : {c m k n e : ℕ} → InheritsBoth p t c m k → (IsAbstract p m → ⊥) → Throws p t m n e → IsChecked p t e → (Allows p t k e → ⊥) → BreaksMembers p t 19 c
  body_of_abstract : {m : ℕ} → role_at p m ≡ role.Method → IsAbstract p m ⊎ IsTrue (written (label p m)).is_native → has_body (label p m) ≡ true → BreaksMembers p t 20 m
  no_body : {m : ℕ} → role_at p m ≡ role.Method → (IsAbstract p m → ⊥) → (IsTrue (written (label p m)).is_native → ⊥) → has_body (label p m) ≡ false → BreaksMembers p t 20 m
  constructor_named_otherwise : {c k : ℕ} {modifiers : Modifiers} → ConstructorOf p c k → label p k ≡ is.Constructor modifiers → (name p k ≡ name p c → ⊥) → BreaksMembers p t 20 k
  abstract_in_class : {c m : ℕ} → DeclaredIn p c m → IsClass p c → (IsAbstract p c → ⊥) → role_at p m ≡ role.Method → IsAbstract p m → BreaksMembers p t 20 m
  constructor_in_interface : {c k : ℕ} → ConstructorOf p c k → IsInterface p c → BreaksMembers p t 20 k
  initializer_in_interface : {c b k : ℕ} → BodyOf p c b → IsInterface p c → parent p k ≡ b → IsInitializer (label p k) → BreaksMembers p t 20 k
  field_not_initialized : {d : ℕ} → role_at p d ≡ role.Field → InInterface p d → (HasInitializer p d → ⊥) → BreaksMembers p t 20 d
  static_in_inner : {c d : ℕ} → IsInner p c → DeclaredIn p c d → IsStatic p d → ((v : _) → ConstantVariable p t (HasConstantForm p t) d v → ⊥) → BreaksMembers p t 21 d
  static_initializer_in_inner : {c b k : ℕ} → IsInner p c → BodyOf p c b → parent p k ≡ b → label p k ≡ is.Initializer true → BreaksMembers p t 21 k
