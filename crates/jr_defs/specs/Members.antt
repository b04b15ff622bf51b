-- Members: what a type declares and what it inherits (JLS 8.2, 8.3, 8.4.8, 8.5, 9.2).
use Rattle.std.specs.Prelude.{◌≡◌, ◌⊎◌, ℕ, ◌<◌}
use Rattle.jr_base.specs.declared.text.Text.{Text}
use Rattle.jr_tree.specs.declared.label.Role.{Role}
use Rattle.jr_tree.specs.declared.label.Role.TheVariants as role
use Rattle.jr_tree.specs.Rows.{Rows, name, role_at}
use Rattle.jr_defs.specs.declared.referent.Space.{Space}
use Rattle.jr_defs.specs.Referents.{Table}
use Rattle.jr_defs.specs.Declarations.{Declares, IsType, IsInterface, IsObject}
use Rattle.jr_defs.specs.Enclosing.{DeclaredIn}
use Rattle.jr_defs.specs.Modifiers.{IsPublic, IsProtected, IsPrivate, IsStatic, InInterface}
use Rattle.jr_defs.specs.Packages.{SamePackage}
use Rattle.jr_defs.specs.Types.{SameSignature}
use Rattle.jr_defs.specs.Supertypes.{Super, AtOrAbove}

-- a field hides fields of its name, a type types of its name (JLS 8.3, 8.5)
pub record SameNamed (p : Rows) (kind : Role) (e d : ℕ) : Type 0 where
  pub first : role_at p e ≡ kind
  pub second : role_at p d ≡ kind
  pub named : name p e ≡ name p d

-- a method overrides or hides methods of its signature (JLS 8.4.8)
pub record SameMethods (p : Rows) (t : Table) (e d : ℕ) : Type 0 where
  pub first : role_at p e ≡ role.Method
  pub second : role_at p d ≡ role.Method
  pub signature : SameSignature p t e d

pub data Replaces (p : Rows) (t : Table) (e d : ℕ) : Type 0 where
  field : SameNamed p role.Field e d → Replaces p t e d
  type : SameNamed p role.Type e d → Replaces p t e d
  method : SameMethods p t e d → Replaces p t e d

-- c does not declare a member that hides or overrides d
abbrev pub IsLeft : Rows → Table → ℕ → ℕ → Type 0
IsLeft p t c d = (e : ℕ) → DeclaredIn p c e → Replaces p t e d → ⊥

-- not private, and without an access modifier only inside its package (JLS 8.2)
pub record CanInherit (p : Rows) (c d : ℕ) : Type 0 where
  pub open_member : IsPrivate p d → ⊥
  pub reach : IsPublic p d ⊎ IsProtected p d ⊎ SamePackage p c d

-- what interfaces have of Object does not reach classes from them: those have it from their superclass
pub record Passes (p : Rows) (s d : ℕ) : Type 0 where
  pub from_interface : IsInterface p s → InInterface p d

-- a public instance method of Object (JLS 9.2)
pub record IsObjectMethod (p : Rows) (d : ℕ) : Type 0 where
  pub of_type : ℕ
  pub object : IsObject p of_type
  pub declared : DeclaredIn p of_type d
  pub method : role_at p d ≡ role.Method
  pub public : IsPublic p d
  pub instance : IsStatic p d → ⊥

-- the member d of the type c: it is declared in the body of c, or inherited from a direct supertype; an interface has the public
-- methods of Object that neither it nor an interface above it declares
pub data MemberOf (p : Rows) (t : Table) : ℕ → ℕ → Type 0 where
  declared : {c d : ℕ} → DeclaredIn p c d → MemberOf p t c d
  inherited : {c s d : ℕ} → Super p t c s → MemberOf p t s d → Passes p s d → CanInherit p c d → IsLeft p t c d → MemberOf p t c d
  of_object : {c d : ℕ} → IsInterface p c → IsObjectMethod p d → ((s : ℕ) → IsInterface p s → AtOrAbove p t c s → IsLeft p t s d) → MemberOf p t c d

-- the members of the type with this name, of this kind
pub record MemberNamed (p : Rows) (t : Table) (kind : Space) (x : Text) (c d : ℕ) : Type 0 where
  pub member : MemberOf p t c d
  pub declares : Declares p kind x d
