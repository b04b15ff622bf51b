-- How the lists of members come together: what a type declares and inherits under one name, the names for which it has a list, and all types
-- (JLS 8.2, 8.4.8).
use Rattle.std.specs.Prelude.{◌≡◌, ◌⊎◌, ℕ, Bool, true, false, not, ◌&&◌, List, [], ◌∷◌, length, Option, Some, None, nat_eq}
use Rattle.std.specs.List.{list_any}
use Rattle.jr_tree.specs.Rows.{Rows, role_at}
use Rattle.jr_defs.specs.Referents.{Table}
use Rattle.jr_defs.specs.Declarations.{IsType}
use Rattle.jr_defs.specs.Enclosing.{DeclaredIn}
use Rattle.jr_defs.specs.Supertypes.{Super, AtOrAbove}
use Rattle.jr_plain.specs.Search.{has, Lists}
use Rattle.jr_plain.specs.Members.{can_inherit, passes}
use Rattle.jr_plain.specs.Types.{is_same_signature}
use Rattle.jr_places.specs.declared.chains.Entry.{Entry}
use Rattle.jr_places.specs.declared.stamps.Stamps.{Stamps}
use Rattle.jr_places.specs.Stamps.{IsStamping}
use Rattle.jr_places.specs.Names.{name_row}
use Rattle.jr_supers.specs.declared.above.Link.{Link}
use Rattle.jr_supers.specs.declared.subtypes.Supers.{Supers}
use Rattle.jr_supers.specs.Above.{up_at, OnChain}
use Rattle.jr_supers.specs.Order.{IsSuperIn, AreBehind}
use Rattle.jr_members.specs.declared.declared.MemberKind.{MemberKind}
use Rattle.jr_members.specs.declared.declared.MemberKind.TheVariants as kind
use Rattle.jr_members.specs.declared.named.Named.{Named}
use Rattle.jr_members.specs.Each.{StandOnce, IsStampedAs}
use Rattle.jr_members.specs.Keys.{AreDeclared}
use Rattle.jr_members.specs.Held.{role_of_kind, IsDeclaredAs, IsHeldAs, IsInheritedFrom}
use Rattle.jr_members.specs.Named.{IsTold, AreLists, IsDone}
use Rattle.jr_members.specs.Nearest.{AreNear}
use Rattle.jr_members.specs.Sources.{links_of, AreNamed}

-- ---- under one name

-- of what a type declares under the name, nothing hides or overrides d
abbrev pub is_left_by : Rows → Table → MemberKind → List ℕ → ℕ → Bool
is_left_by p t kind.Field own d = not (list_any (λ e. true) own)
is_left_by p t kind.Type own d = not (list_any (λ e. true) own)
is_left_by p t kind.Method own d = not (list_any (λ e. is_same_signature p t e d) own)

-- c, which declares these under the name, inherits d from s
abbrev pub inherits : Rows → Table → MemberKind → List ℕ → ℕ → ℕ → ℕ → Bool
inherits p t kind own c s d = passes p s d && (can_inherit p c d && is_left_by p t kind own d)

-- what c declares, and what it inherits but from the rest of its supertypes
pub record IsGathering (p : Rows) (t : Table) (kind : MemberKind) (c x : ℕ) (all rest : List ℕ) : Type 0 where
  pub sound : (d : ℕ) → has all d ≡ true → IsHeldAs p t kind c x d
  pub own : (d : ℕ) → IsDeclaredAs p kind c x d → has all d ≡ true
  pub told : (s d : ℕ) → Super p t c s → IsInheritedFrom p t kind c s x d → (has all d ≡ true) ⊎ (has rest s ≡ true)
  pub supers : (s : ℕ) → has rest s ≡ true → Super p t c s
  pub once : StandOnce all

-- ---- for one type

-- it is the first supertype
abbrev pub is_the : Option ℕ → ℕ → Bool
is_the None s = false
is_the (Some u) s = nat_eq u s

-- the supertype is not the first
abbrev pub IsFurther : Option ℕ → ℕ → Type 0
IsFurther linked s = is_the linked s ≡ false

-- what stands at or above s has been added, unless s is the first supertype
pub record PushesUp (p : Rows) (t : Table) (linked : Option ℕ) (s : ℕ) (old new : List ℕ) : Type 0 where
  pub lists : Lists new (λ e. (has old e ≡ true) ⊎ (IsFurther linked s × AtOrAbove p t s e))

-- e stands at or above one of these supertypes, other than the first
pub record IsUpFurther (p : Rows) (t : Table) (linked : Option ℕ) (direct : List ℕ) (e : ℕ) : Type 0 where
  pub over : ℕ
  pub direct_has : has direct over ≡ true
  pub further : IsFurther linked over
  pub above : AtOrAbove p t over e

-- e was there, or it stands at or above a further supertype
abbrev pub IsAddedUp : Rows → Table → Option ℕ → List ℕ → List ℕ → ℕ → Type 0
IsAddedUp p t linked direct old e = (has old e ≡ true) ⊎ IsUpFurther p t linked direct e

-- those are there but for the rest
pub record IsAddingUp (p : Rows) (t : Table) (linked : Option ℕ) (direct old all rest : List ℕ) : Type 0 where
  pub sound : (e : ℕ) → has all e ≡ true → IsAddedUp p t linked direct old e
  pub kept : (e : ℕ) → has old e ≡ true → has all e ≡ true
  pub told : (s e : ℕ) → has direct s ≡ true → IsFurther linked s → AtOrAbove p t s e → (has all e ≡ true) ⊎ (has rest s ≡ true)
  pub part : (s : ℕ) → has rest s ≡ true → has direct s ≡ true

-- the bodies of c and of what stands at or above its further supertypes: c has a list for each name that they declare
pub data IsNaming (p : Rows) (t : Table) (links : List (Option Link)) (c : ℕ) : ℕ → Type 0 where
  own : IsNaming p t links c c
  further : {s e : ℕ} → Super p t c s → IsFurther (up_at links c) s → AtOrAbove p t s e → IsNaming p t links c e

-- a member of the kind that one of them declares
pub record IsWantedAs (p : Rows) (t : Table) (links : List (Option Link)) (kind : MemberKind) (c d : ℕ) : Type 0 where
  pub role_is : role_at p d ≡ role_of_kind kind
  pub holder : ℕ
  pub naming : IsNaming p t links c holder
  pub declared : DeclaredIn p holder d

-- the types strictly above c are done
abbrev pub IsReady : Rows → Table → List (Option Link) → MemberKind → List Entry → ℕ → Type 0
IsReady p t links kind lists c = (s y : ℕ) → Super p t c s → OnChain links s y → IsDone p t links kind lists y

-- the lists are right, and what was told and done is so still
pub record KeepsLists (p : Rows) (t : Table) (links : List (Option Link)) (kind : MemberKind) (old lists : List Entry) : Type 0 where
  pub all : AreLists p t kind lists
  pub told : (c x : ℕ) → IsTold p t kind old c x → IsTold p t kind lists c x
  pub done : (c : ℕ) → IsDone p t links kind old c → IsDone p t links kind lists c

-- c has its lists but for the names of the rest
pub record IsListing (p : Rows) (t : Table) (links : List (Option Link)) (kind : MemberKind) (c : ℕ) (rest : List ℕ) (old lists : List Entry) : Type 0 where
  pub keeps : KeepsLists p t links kind old lists
  pub told : (d : ℕ) → IsWantedAs p t links kind c d → IsTold p t kind lists c (name_row p d) ⊎ (has rest d ≡ true)

-- ---- for all types

-- all types but the rest are done
pub record AreDone (p : Rows) (t : Table) (links : List (Option Link)) (supers : List Entry) (kind : MemberKind) (rest : List ℕ) (lists : List Entry) : Type 0 where
  pub done : List ℕ
  pub all : AreLists p t kind lists
  pub each : (y : ℕ) → has done y ≡ true → IsDone p t links kind lists y
  pub closed : (y s : ℕ) → has done y ≡ true → IsSuperIn supers y s → IsType p s → has done s ≡ true
  pub behind : AreBehind p supers done rest
  pub whole : (y : ℕ) → IsType p y → (has done y ≡ true) ⊎ (has rest y ≡ true)

-- ---- the tables

-- what is there for the lists of c is right
pub record CanGather (p : Rows) (t : Table) (supers : Supers) (kind : MemberKind) (named : Named) (c : ℕ) : Type 0 where
  pub declared_is : AreDeclared p kind named.declared
  pub all : AreLists p t kind named.lists
  pub near : AreNear p t kind named.lists named.nearest
  pub ready : IsReady p t (links_of supers) kind named.lists c

-- the list of c for the name, whose items are stamped, but for the rest of its supertypes; those are what it declares under the name
pub record IsGatheringIn (p : Rows) (t : Table) (kind : MemberKind) (c x : ℕ) (own : List ℕ) (stamps : Stamps) (all rest : List ℕ) : Type 0 where
  pub own_is : Lists own (IsDeclaredAs p kind c x)
  pub stamped : IsStampedAs (length p) stamps all
  pub gathering : IsGathering p t kind c x all rest

-- lists can be added
pub record CanAdd (p : Rows) (t : Table) (kind : MemberKind) (named : Named) (stamps : Stamps) : Type 0 where
  pub declared_is : AreDeclared p kind named.declared
  pub all : AreLists p t kind named.lists
  pub near : AreNear p t kind named.lists named.nearest
  pub counted : IsStamping stamps (length p)

-- those of c can be
pub record CanAddTo (p : Rows) (t : Table) (supers : Supers) (kind : MemberKind) (named : Named) (stamps : Stamps) (c : ℕ) : Type 0 where
  pub can : CanAdd p t kind named stamps
  pub ready : IsReady p t (links_of supers) kind named.lists c

-- the list of c for the name is there
pub record AddsList (p : Rows) (t : Table) (supers : Supers) (kind : MemberKind) (c x : ℕ) (old new : Named) (stamps : Stamps) : Type 0 where
  pub can : CanAdd p t kind new stamps
  pub keeps : KeepsLists p t (links_of supers) kind old.lists new.lists
  pub told : IsTold p t kind new.lists c x

-- the lists of c are there but for the names of the rest
pub record IsAddingLists (p : Rows) (t : Table) (supers : Supers) (kind : MemberKind) (c : ℕ) (rest : List ℕ) (old new : Named) (stamps : Stamps) : Type 0 where
  pub can : CanAddTo p t supers kind new stamps c
  pub listing : IsListing p t (links_of supers) kind c rest old.lists new.lists
  pub wanted : (d : ℕ) → has rest d ≡ true → IsWantedAs p t (links_of supers) kind c d

-- the same, with each name for which it wants one
pub record AddsLists (p : Rows) (t : Table) (supers : Supers) (kind : MemberKind) (c : ℕ) (old new : Named) (stamps : Stamps) : Type 0 where
  pub can : CanAdd p t kind new stamps
  pub keeps : KeepsLists p t (links_of supers) kind old.lists new.lists
  pub done : IsDone p t (links_of supers) kind new.lists c
  pub told : (d : ℕ) → IsWantedAs p t (links_of supers) kind c d → IsTold p t kind new.lists c (name_row p d)

-- the lists of c are there
pub record AddsType (p : Rows) (t : Table) (supers : Supers) (kind : MemberKind) (c : ℕ) (old new : Named) (stamps : Stamps) : Type 0 where
  pub can : CanAdd p t kind new stamps
  pub keeps : KeepsLists p t (links_of supers) kind old.lists new.lists
  pub done : IsDone p t (links_of supers) kind new.lists c

-- those of all types but the rest are there
pub record IsAddingTypes (p : Rows) (t : Table) (supers : Supers) (kind : MemberKind) (rest : List ℕ) (named : Named) (stamps : Stamps) : Type 0 where
  pub can : CanAdd p t kind named stamps
  pub done : AreDone p t (links_of supers) supers.direct.supers kind rest named.lists

-- the members of a kind of all types are there
pub record AddsAll (p : Rows) (t : Table) (supers : Supers) (kind : MemberKind) (named : Named) (stamps : Stamps) : Type 0 where
  pub named_is : AreNamed p t supers kind named
  pub counted : IsStamping stamps (length p)
