-- What a type declares or inherits, by kind and name (JLS 8.2, 8.3, 8.4.8, 8.5).
use Rattle.std.specs.Prelude.{◌≡◌, ℕ, Option, Some, None}
use Rattle.jr_tree.specs.declared.label.Role.{Role}
use Rattle.jr_tree.specs.declared.label.Role.TheVariants as role
use Rattle.jr_tree.specs.Rows.{Rows, role_at}
use Rattle.jr_defs.specs.Referents.{Table}
use Rattle.jr_defs.specs.Declarations.{IsInterface, IsObject}
use Rattle.jr_defs.specs.Enclosing.{DeclaredIn}
use Rattle.jr_defs.specs.Headers.{NamesHeader}
use Rattle.jr_defs.specs.Supertypes.{Super, AtOrAbove}
use Rattle.jr_defs.specs.Members.{MemberOf, IsLeft, CanInherit, Passes, IsObjectMethod}
use Rattle.jr_places.specs.Names.{name_row}
use Rattle.jr_members.specs.declared.declared.MemberKind.{MemberKind}
use Rattle.jr_members.specs.declared.declared.MemberKind.TheVariants as kind

abbrev pub role_of_kind : MemberKind → Role
role_of_kind kind.Field = role.Field
role_of_kind kind.Type = role.Type
role_of_kind kind.Method = role.Method

-- the kind of member that a role is
abbrev pub kind_of : Role → Option MemberKind
kind_of role.Field = Some kind.Field
kind_of role.Type = Some kind.Type
kind_of role.Method = Some kind.Method
kind_of _ = None

-- the members of a type but those that an interface has of Object, which it does not pass on
pub data Holds (p : Rows) (t : Table) : ℕ → ℕ → Type 0 where
  declared : {c d : ℕ} → DeclaredIn p c d → Holds p t c d
  inherited : {c s d : ℕ} → Super p t c s → Holds p t s d → Passes p s d → CanInherit p c d → IsLeft p t c d → Holds p t c d

-- those that an interface has of Object
pub record HasOfObject (p : Rows) (t : Table) (c d : ℕ) : Type 0 where
  pub interface : IsInterface p c
  pub method : IsObjectMethod p d
  pub left : (s : ℕ) → IsInterface p s → AtOrAbove p t c s → IsLeft p t s d

-- d is of the kind, and its name is that of the row x, the first with it
pub record IsOf (p : Rows) (kind : MemberKind) (x d : ℕ) : Type 0 where
  pub role_is : role_at p d ≡ role_of_kind kind
  pub named : name_row p d ≡ x

pub record IsDeclaredAs (p : Rows) (kind : MemberKind) (c x d : ℕ) : Type 0 where
  pub of : IsOf p kind x d
  pub declared : DeclaredIn p c d

pub record IsHeldAs (p : Rows) (t : Table) (kind : MemberKind) (c x d : ℕ) : Type 0 where
  pub of : IsOf p kind x d
  pub held : Holds p t c d

-- a member of the type, with what interfaces have of Object (JLS 8.2, 9.2)
pub record IsMemberAs (p : Rows) (t : Table) (kind : MemberKind) (c x d : ℕ) : Type 0 where
  pub of : IsOf p kind x d
  pub member : MemberOf p t c d

-- c inherits it from s
pub record IsInheritedFrom (p : Rows) (t : Table) (kind : MemberKind) (c s x d : ℕ) : Type 0 where
  pub held : IsHeldAs p t kind s x d
  pub passes : Passes p s d
  pub inherits : CanInherit p c d
  pub left : IsLeft p t c d

-- Object names nothing in its header, as the prelude has it
abbrev pub ObjectIsBare : Rows → Type 0
ObjectIsBare p = (c n : ℕ) → IsObject p c → NamesHeader p c n → ⊥

-- Object is no interface, as the prelude has it
abbrev pub ObjectIsNoInterface : Rows → Type 0
ObjectIsNoInterface p = (o : ℕ) → IsObject p o → IsInterface p o → ⊥
