-- What tables of members are to have, and what an interface has of Object (JLS 9.2).
use Rattle.std.specs.Prelude.{◌≡◌, ◌⊎◌, ℕ, Bool, true, false, List}
use Rattle.jr_tree.specs.Rows.{Rows}
use Rattle.jr_defs.specs.Referents.{Table}
use Rattle.jr_defs.specs.Declarations.{IsInterface}
use Rattle.jr_defs.specs.Enclosing.{DeclaredIn}
use Rattle.jr_defs.specs.Modifiers.{IsPublic, IsStatic}
use Rattle.jr_defs.specs.Supertypes.{AtOrAbove}
use Rattle.jr_defs.specs.Members.{Replaces}
use Rattle.jr_plain.specs.Search.{has}
use Rattle.jr_plain.specs.Declarations.{is_interface}
use Rattle.jr_supers.specs.declared.subtypes.Supers.{Supers}
use Rattle.jr_supers.specs.Signatures.{AreSignatures}
use Rattle.jr_members.specs.declared.declared.MemberKind.{MemberKind}
use Rattle.jr_members.specs.declared.declared.MemberKind.TheVariants as kind
use Rattle.jr_members.specs.declared.members.Kinds.{Kinds}
use Rattle.jr_members.specs.declared.members.Members.{Members}
use Rattle.jr_members.specs.declared.members.World.{World}
use Rattle.jr_members.specs.declared.named.Named.{Named}
use Rattle.jr_members.specs.Each.{StandOnce}
use Rattle.jr_members.specs.Held.{ObjectIsNoInterface}
use Rattle.jr_members.specs.Keys.{AreCallables}
use Rattle.jr_members.specs.Sources.{AreSeen, AreNamed}

pub record AreKinds (p : Rows) (t : Table) (supers : Supers) (kinds : Kinds) : Type 0 where
  pub fields : AreNamed p t supers kind.Field kinds.fields
  pub types : AreNamed p t supers kind.Type kinds.types
  pub methods : AreNamed p t supers kind.Method kinds.methods

pub record AreMembersOf (p : Rows) (t : Table) (supers : Supers) (members : Members) : Type 0 where
  pub kinds_are : AreKinds p t supers members.kinds
  pub callables_are : AreCallables p members.callables
  pub signatures_are : AreSignatures p t members.callables.signatures

-- rows of a program with the prelude, with their supertypes and members under the table
pub record IsWorld (t : Table) (world : World) : Type 0 where
  pub seen : AreSeen world.under.rows.now t world.under.places.now world.supers.now
  pub members_are : AreMembersOf world.under.rows.now t world.supers.now world.members.now
  pub class : ObjectIsNoInterface world.under.rows.now

-- the members of a kind
abbrev pub kind_in : Members → MemberKind → Named
kind_in members kind.Field = members.kinds.fields
kind_in members kind.Type = members.kinds.types
kind_in members kind.Method = members.kinds.methods

-- methods of an interface
abbrev pub is_of_interface : Rows → MemberKind → ℕ → Bool
is_of_interface p kind.Method c = is_interface p c
is_of_interface p _ c = false

-- s is an interface that declares a member which hides or overrides d
pub record IsReplacedBy (p : Rows) (t : Table) (d s : ℕ) : Type 0 where
  pub interface : IsInterface p s
  pub own : ℕ
  pub declared : DeclaredIn p s own
  pub replaces : Replaces p t own d

-- no interface of these replaces d
abbrev pub IsLeftBy : Rows → Table → List ℕ → ℕ → Type 0
IsLeftBy p t above d = (s : ℕ) → has above s ≡ true → IsReplacedBy p t d s → ⊥

-- a public instance method that none of them replaces
pub record IsPublicLeft (p : Rows) (t : Table) (above : List ℕ) (d : ℕ) : Type 0 where
  pub public : IsPublic p d
  pub instance : IsStatic p d → ⊥
  pub left : IsLeftBy p t above d

-- such ones of a list have been added, but for the rest
pub record IsAddingLeft (p : Rows) (t : Table) (above own old all rest : List ℕ) : Type 0 where
  pub sound : (d : ℕ) → has all d ≡ true → (has old d ≡ true) ⊎ ((has own d ≡ true) × IsPublicLeft p t above d)
  pub kept : (d : ℕ) → has old d ≡ true → has all d ≡ true
  pub told : (d : ℕ) → has own d ≡ true → IsPublicLeft p t above d → (has all d ≡ true) ⊎ (has rest d ≡ true)
  pub part : (d : ℕ) → has rest d ≡ true → has own d ≡ true
  pub once : StandOnce all

-- a public instance method that neither c nor an interface above it declares
pub record IsPublicAbove (p : Rows) (t : Table) (c d : ℕ) : Type 0 where
  pub public : IsPublic p d
  pub instance : IsStatic p d → ⊥
  pub left : (s : ℕ) → AtOrAbove p t c s → IsReplacedBy p t d s → ⊥

-- such ones of a list have been added
pub record AddsLeft (p : Rows) (t : Table) (c : ℕ) (own old all : List ℕ) : Type 0 where
  pub sound : (d : ℕ) → has all d ≡ true → (has old d ≡ true) ⊎ ((has own d ≡ true) × IsPublicAbove p t c d)
  pub kept : (d : ℕ) → has old d ≡ true → has all d ≡ true
  pub told : (d : ℕ) → has own d ≡ true → IsPublicAbove p t c d → has all d ≡ true
  pub once : StandOnce all
