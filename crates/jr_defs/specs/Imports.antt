-- What imports bring into scope (JLS 7.5).
use Rattle.std.specs.Prelude.{◌≡◌, ◌⊎◌, ℕ, ◌+◌, ◌<◌, ◌≤◌, List, [], ◌∷◌, codes, Option}
use Rattle.jr_base.specs.declared.text.Text.{Text}
use Rattle.jr_tree.specs.declared.label.Label.TheVariants as is
use Rattle.jr_tree.specs.declared.label.ImportKind.{ImportKind}
use Rattle.jr_tree.specs.declared.label.ImportKind.TheVariants as importing
use Rattle.jr_tree.specs.Rows.{Rows, label, name, parent, end, role_at}
use Rattle.jr_defs.specs.declared.referent.Referent.TheVariants.{Package, Declared}
use Rattle.jr_defs.specs.Referents.{Table}
use Rattle.jr_defs.specs.Declarations.{IsType}
use Rattle.jr_defs.specs.Enclosing.{DeclaredIn, InTopLevel}
use Rattle.jr_defs.specs.Modifiers.{IsPublic, IsPrivate, IsStatic}
use Rattle.jr_defs.specs.Packages.{InUnit, SamePackage, TypeOfPackage, spelled}
use Rattle.jr_defs.specs.Members.{MemberOf}

-- the row i is an import of this form in the unit u; the last identifier of its name is the row behind it
pub record ImportOf (p : Rows) (u : ℕ) (form : ImportKind) (i : ℕ) : Type 0 where
  pub import : label p i ≡ is.Import form
  pub inside : parent p i ≡ u

-- the import names the type c
pub record ImportNames (p : Rows) (t : Table) (i c : ℕ) : Type 0 where
  pub level : Option ℕ
  pub refers : t (i + 1) ≡ Declared c level
  pub type : IsType p c

-- what a unit may import without naming it alone: what is public, or not private and of its own package (JLS 7.5.2, 7.5.3)
pub record CanImport (p : Rows) (u d : ℕ) : Type 0 where
  pub open_type : IsPrivate p d → ⊥
  pub reach : IsPublic p d ⊎ SamePackage p u d

-- a single-type import brings its type; one of a type that the unit itself declares is ignored (JLS 7.5.1)
pub record SingleImport (p : Rows) (t : Table) (u d : ℕ) : Type 0 where
  pub import : ℕ
  pub is_import : ImportOf p u importing.Single import
  pub names : ImportNames p t import d
  pub foreign : InUnit p u d → ⊥

-- a single static import brings the static members of its type that have its name, declared or inherited (JLS 7.5.3)
pub record ImportedBy (p : Rows) (t : Table) (u i d : ℕ) : Type 0 where
  pub is_import : ImportOf p u importing.StaticSingle i
  pub of_type : ℕ
  pub names : ImportNames p t i of_type
  pub member : MemberOf p t of_type d
  pub static : IsStatic p d
  pub named : name p d ≡ name p i
  pub reached : CanImport p u d

pub record StaticImport (p : Rows) (t : Table) (u d : ℕ) : Type 0 where
  pub import : ℕ
  pub imports : ImportedBy p t u import d

abbrev pub java_lang : List Text
java_lang = codes "java" ∷ codes "lang" ∷ []

-- the types of a package, or those that are declared in a type, and not those that it inherits, by an import on demand; each unit imports java.lang so (JLS 7.5.2, 7.5.5)
pub data OnDemandOf (p : Rows) (t : Table) (u : ℕ) : ℕ → Type 0 where
  of_package : {i d : ℕ} → ImportOf p u importing.OnDemand i → t (i + 1) ≡ Package → TypeOfPackage p (spelled p (i + 1)) d → OnDemandOf p t u d
  of_type : {i c d : ℕ} → ImportOf p u importing.OnDemand i → ImportNames p t i c → DeclaredIn p c d → IsType p d → OnDemandOf p t u d
  lang : {d : ℕ} → TypeOfPackage p java_lang d → OnDemandOf p t u d

pub record OnDemandImport (p : Rows) (t : Table) (u d : ℕ) : Type 0 where
  pub brings : OnDemandOf p t u d
  pub reached : CanImport p u d

-- imports hold in all types of their unit, and not in the imports themselves (JLS 6.3)
pub record ImportsHold (p : Rows) (u o : ℕ) : Type 0 where
  pub unit : InUnit p u o
  pub top : ℕ
  pub inside : InTopLevel p top o
