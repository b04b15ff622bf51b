-- What a class has as a member, and what a call finds there, a step at a time (JLS 8.4.8, 15.12.4.4).
use Rattle.std.specs.Prelude.{◌≡◌, ◌⊎◌, ℕ, zero, suc, ◌<◌, Bool, true, false, List, [], ◌∷◌, ◌++◌, map, length, Option, Some, None}
use Rattle.std.specs.List.Sorted.{IsStrictlyIncreasing}
use Rattle.jr_tree.specs.declared.label.Role.TheVariants as role
use Rattle.jr_tree.specs.Rows.{Rows, role_at}
use Rattle.jr_defs.specs.Referents.{Table}
use Rattle.jr_defs.specs.Declarations.{IsClass, IsInterface}
use Rattle.jr_defs.specs.Enclosing.{DeclaredIn}
use Rattle.jr_defs.specs.Modifiers.{IsPublic}
use Rattle.jr_defs.specs.Supertypes.{Super, Superclass, Above}
use Rattle.jr_defs.specs.Members.{Passes, SameMethods}
use Rattle.jr_defs.specs.Overriding.{Has, ServesNot, ServesFirst, Dispatches}
use Rattle.jr_plain.specs.Search.{has}
use Rattle.jr_places.specs.declared.stamps.Stamps.{Stamps}
use Rattle.jr_places.specs.Stamps.{is_stamped, IsStamping}
use Rattle.jr_members.specs.declared.declared.MemberKind.TheVariants as kind
use Rattle.jr_members.specs.Held.{Holds}
use Rattle.jr_members.specs.Keys.{falling, is_declared_by}
use Rattle.jr_dispatch.specs.declared.dispatch.Found as code

abbrev pub AreMethodRows : Rows → List ℕ → Type 0
AreMethodRows p all = (k : ℕ) → has all k ≡ true → role_at p k ≡ role.Method

-- ---- members

-- the type declares a method of the signature of d
pub record DeclaresLike (p : Rows) (t : Table) (c d : ℕ) : Type 0 where
  pub own : ℕ
  pub declared : DeclaredIn p c own
  pub same : SameMethods p t own d

-- the supertypes of c that pass d on are stamped, but those of the rest
pub record IsMarking (p : Rows) (t : Table) (c d : ℕ) (old now : Stamps) (bound : ℕ) (rest : List ℕ) : Type 0 where
  pub counted : IsStamping now bound
  pub out : (s : ℕ) → is_stamped now s ≡ true → (is_stamped old s ≡ true) ⊎ (Super p t c s × Passes p s d)
  pub kept : (s : ℕ) → is_stamped old s ≡ true → is_stamped now s ≡ true
  pub told : (s : ℕ) → Super p t c s → Passes p s d → s < bound → (is_stamped now s ≡ true) ⊎ (has rest s ≡ true)
  pub supers : (s : ℕ) → has rest s ≡ true → Super p t c s

-- they are stamped now
pub record IsMarked (p : Rows) (t : Table) (c d : ℕ) (old now : Stamps) (bound : ℕ) : Type 0 where
  pub counted : IsStamping now bound
  pub out : (s : ℕ) → is_stamped now s ≡ true → (is_stamped old s ≡ true) ⊎ (Super p t c s × Passes p s d)
  pub kept : (s : ℕ) → is_stamped old s ≡ true → is_stamped now s ≡ true
  pub told : (s : ℕ) → Super p t c s → Passes p s d → s < bound → is_stamped now s ≡ true

-- s is stamped now, if it passes d on
pub record IsMarkedIf (p : Rows) (s d : ℕ) (old now : Stamps) (bound : ℕ) : Type 0 where
  pub counted : IsStamping now bound
  pub out : (x : ℕ) → is_stamped now x ≡ true → (is_stamped old x ≡ true) ⊎ ((s ≡ x) × Passes p s d)
  pub kept : (x : ℕ) → is_stamped old x ≡ true → is_stamped now x ≡ true
  pub told : Passes p s d → s < bound → is_stamped now s ≡ true

-- a type that is stamped declares d, or the supertypes from which it has d are stamped now
pub record IsVisited (p : Rows) (t : Table) (c d : ℕ) (old now : Stamps) (bound : ℕ) (is_found : Bool) : Type 0 where
  pub counted : IsStamping now bound
  pub out : (s : ℕ) → is_stamped now s ≡ true → (is_stamped old s ≡ true) ⊎ ((is_stamped old c ≡ true) × (Holds p t s d → Holds p t c d))
  pub kept : (s : ℕ) → is_stamped old s ≡ true → is_stamped now s ≡ true
  pub found : is_found ≡ true → (is_stamped old c ≡ true) × DeclaredIn p c d
  pub passed : is_found ≡ false → is_stamped old c ≡ true → Holds p t c d → (s : ℕ) × Super p t c s × (is_stamped now s ≡ true) × Holds p t s d

-- c has d where one of the stamped types of the rest has it
pub record IsSeeking (p : Rows) (t : Table) (c d : ℕ) (met : Stamps) (rest : List ℕ) : Type 0 where
  pub counted : IsStamping met (length p)
  pub sound : (x : ℕ) → is_stamped met x ≡ true → Holds p t x d → Holds p t c d
  pub whole : Holds p t c d → (x : ℕ) × (is_stamped met x ≡ true) × (has rest x ≡ true) × Holds p t x d

-- ---- what serves

-- a method of an interface above the class, and a public one of its signature
pub record IsLikeOfInterface (p : Rows) (t : Table) (c f m : ℕ) : Type 0 where
  pub interface : ℕ
  pub is_interface : IsInterface p interface
  pub above : Above p t c interface
  pub declared : DeclaredIn p interface m
  pub public : IsPublic p f
  pub signatures : SameMethods p t f m

-- the last one of a list of which P holds, or the one before the list
pub data IsLastOf (P : ℕ → Type 0) : Option ℕ → List ℕ → Option ℕ → Type 0 where
  end : {before : Option ℕ} → IsLastOf P before [] before
  yes : {before found : Option ℕ} {x : ℕ} {xs : List ℕ} → P x → IsLastOf P (Some x) xs found → IsLastOf P before (x ∷ xs) found
  no : {before found : Option ℕ} {x : ℕ} {xs : List ℕ} → (P x → ⊥) → IsLastOf P before xs found → IsLastOf P before (x ∷ xs) found

-- the first in the text of the class b that serves, if there is one
abbrev pub IsFirstServing : Rows → Table → ℕ → ℕ → ℕ → Option ℕ → Type 0
IsFirstServing p t c m b None = ServesNot p t c m b
IsFirstServing p t c m b (Some f) = ServesFirst p t c m b f

-- ---- the way up

-- the way from b up its superclasses ends in less than so many steps
abbrev pub EndsIn : Rows → Table → ℕ → ℕ → Type 0
EndsIn p t zero b = ⊥
EndsIn p t (suc n) b = (s : ℕ) → Superclass p t b s → EndsIn p t n s

-- one edge, or none
abbrev pub edge_list : ℕ → ℕ → Option ℕ → List code.Found
edge_list c m None = []
edge_list c m (Some f) = record { class = c; method = m; found = f } ∷ []

-- what a call of m in the class c finds, if the class has the method
abbrev pub IsFoundAs : Rows → Table → ℕ → ℕ → Option ℕ → Type 0
IsFoundAs p t c m (Some f) = Dispatches p t c m f
IsFoundAs p t c m None = IsClass p c → Has p t c m → ⊥

-- ---- all that a class has

-- the methods that a type declares, from the last back
abbrev pub declared_methods : Rows → ℕ → List ℕ
declared_methods p c = falling (length p) (is_declared_by p kind.Method c)

-- an edge of the class and the method behind these, or none more where it has not the method
pub record AddsFound (p : Rows) (t : Table) (c m : ℕ) (old new : List code.Found) : Type 0 where
  pub found : Option ℕ
  pub is : IsFoundAs p t c m found
  pub new_is : new ≡ old ++ edge_list c m found

-- the method of an edge
abbrev pub method_of : code.Found → ℕ
method_of e = e.method

-- each edge is one of the class
abbrev pub AreEdges : Rows → Table → ℕ → List code.Found → Type 0
AreEdges p t c [] = Unit {0}
AreEdges p t c (e ∷ more) = (e.class ≡ c) × Dispatches p t c e.method e.found × AreEdges p t c more

-- the edges of a class: one for each method that it has, as the methods rise
pub record AreFoundIn (p : Rows) (t : Table) (c : ℕ) (all : List code.Found) : Type 0 where
  pub edges : AreEdges p t c all
  pub rise : IsStrictlyIncreasing (map method_of all)
  pub told : (m : ℕ) → IsClass p c → Has p t c m → has (map method_of all) m ≡ true
