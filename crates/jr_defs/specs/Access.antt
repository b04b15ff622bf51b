-- Access (JLS 6.6, 6.6.1, 6.6.2).
use Rattle.std.specs.Prelude.{◌≡◌, ◌⊎◌, ℕ, Option, Some, None}
use Rattle.jr_tree.specs.declared.tree.ThisOrSuper.TheVariants as which
use Rattle.jr_tree.specs.declared.label.Role.{Role}
use Rattle.jr_tree.specs.declared.label.Role.TheVariants as role
use Rattle.jr_tree.specs.declared.label.Sought.TheVariants as sought
use Rattle.jr_tree.specs.Rows.{Rows, role_at, sought_at}
use Rattle.jr_defs.specs.declared.referent.RowType.{RowType}
use Rattle.jr_defs.specs.Referents.{Table}
use Rattle.jr_defs.specs.Declarations.{IsType}
use Rattle.jr_defs.specs.Enclosing.{InBody, DeclaredIn, ConstructorOf, SameTopLevel}
use Rattle.jr_defs.specs.Modifiers.{IsPublic, IsProtected, IsPrivate, IsStatic}
use Rattle.jr_defs.specs.Packages.{SamePackage}
use Rattle.jr_defs.specs.Types.{class_type}
use Rattle.jr_defs.specs.Supertypes.{AtOrAbove, Superclass}

-- locals, parameters and labels have no access
abbrev pub IsLocalRole : Role → Type 0
IsLocalRole role.Local = Unit {0}
IsLocalRole role.Parameter = Unit {0}
IsLocalRole role.Label = Unit {0}
IsLocalRole _ = ⊥

-- what is not reached through an object: static members and types
pub data NeedsNoObject (p : Rows) (d : ℕ) : Type 0 where
  static : IsStatic p d → NeedsNoObject p d
  type : IsType p d → NeedsNoObject p d

-- an instance member is reached through an object of the subclass s or below; without a receiver, or through super, it is (JLS 6.6.2.1)
pub data IsThrough (p : Rows) (t : Table) (s d : ℕ) : Option RowType → Type 0 where
  freely : {receiver : Option RowType} → NeedsNoObject p d → IsThrough p t s d receiver
  without : IsThrough p t s d None
  object : {c : ℕ} → AtOrAbove p t c s → IsThrough p t s d (Some (class_type c))

-- a protected member, outside its package: the place stands in the body of a class at or below the class that declares it
pub record ByProtected (p : Rows) (t : Table) (d o : ℕ) (receiver : Option RowType) : Type 0 where
  pub protected : IsProtected p d
  pub holder : ℕ
  pub declared : DeclaredIn p holder d
  pub subclass : ℕ
  pub body : InBody p subclass o
  pub above : AtOrAbove p t subclass holder
  pub through : IsThrough p t subclass d receiver

-- a protected constructor, outside its package: by super(..) alone (JLS 6.6.2.2)
pub record BySuperCall (p : Rows) (d o : ℕ) : Type 0 where
  pub protected : IsProtected p d
  pub constructor : role_at p d ≡ role.Constructor
  pub calls : sought_at p o ≡ sought.ConstructorCall which.Super

-- the declaration d is accessible at the place o, for a member through a receiver of this type where there is one
pub data IsAccessible (p : Rows) (t : Table) (d o : ℕ) (receiver : Option RowType) : Type 0 where
  local : IsLocalRole (role_at p d) → IsAccessible p t d o receiver
  public : IsPublic p d → IsAccessible p t d o receiver
  private : IsPrivate p d → SameTopLevel p d o → IsAccessible p t d o receiver
  in_package : (IsPrivate p d → ⊥) → SamePackage p d o → IsAccessible p t d o receiver
  protected : ByProtected p t d o receiver → IsAccessible p t d o receiver
  super_call : BySuperCall p d o → IsAccessible p t d o receiver
