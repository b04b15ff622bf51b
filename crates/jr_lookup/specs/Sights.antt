-- What a sight is to be under a table, and what imports bring to a place by a name (JLS 6.3, 7.4, 7.5).
use Rattle.std.specs.Prelude.{◌≡◌, ◌⊎◌, ℕ, ◌+◌, ◌<◌, ◌^◌, Bool, true, not, ◌&&◌, ◌||◌, List, length, Option, Decides}
use Rattle.jr_tree.specs.declared.label.Label.TheVariants as is
use Rattle.jr_tree.specs.declared.label.ImportKind.{ImportKind}
use Rattle.jr_tree.specs.Rows.{Rows, label}
use Rattle.jr_defs.specs.declared.referent.Referent.{Referent}
use Rattle.jr_defs.specs.declared.referent.Referent.TheVariants.{Package, Declared}
use Rattle.jr_defs.specs.Referents.{Table, entries}
use Rattle.jr_defs.specs.Declarations.{IsType}
use Rattle.jr_defs.specs.Enclosing.{IsTopLevel}
use Rattle.jr_defs.specs.Modifiers.{IsStatic}
use Rattle.jr_defs.specs.Packages.{InPackage, SamePackage, TypeOfPackage, spelled}
use Rattle.jr_defs.specs.Imports.{java_lang, ImportNames, CanImport, SingleImport, StaticImport, OnDemandImport}
use Rattle.jr_defs.specs.Scope.{Imported, TypeOfUnit}
use Rattle.jr_plain.specs.Search.{has}
use Rattle.jr_plain.specs.Imports.{can_import}
use Rattle.jr_plain.specs.Modifiers.{is_static}
use Rattle.jr_plain.specs.Packages.{unit_of}
use Rattle.jr_places.specs.Names.{name_row}
use Rattle.jr_places.specs.Packages.{same_some}
use Rattle.jr_members.specs.declared.declared.MemberKind.{MemberKind}
use Rattle.jr_members.specs.declared.declared.MemberKind.TheVariants as kind
use Rattle.jr_members.specs.Held.{IsOf, IsDeclaredAs, IsMemberAs}
use Rattle.jr_members.specs.Worlds.{IsWorld}
use Rattle.jr_lookup.specs.declared.simple.Sight as code
use Rattle.jr_lookup.specs.Scopes.{AreScopes, AreTops}
use Rattle.jr_lookup.specs.Imports.{AreImports}

-- ---- sights

pub record IsImport (p : Rows) (i : ℕ) : Type 0 where
  pub form : ImportKind
  pub import : label p i ≡ is.Import form

-- at the names of imports the one table refers as the other does
pub record SeesImports (p : Rows) (seen t : Table) : Type 0 where
  pub same : (i : ℕ) → IsImport p i → seen (i + 1) ≡ t (i + 1)

-- rows of a program with the prelude, whose first unit is one of java.lang, with all that lookup reads of them under the table
pub record IsSight (t : Table) (sight : code.Sight) : Type 0 where
  pub few : length sight.world.under.rows.now < 2 ^ 32
  pub world : IsWorld t sight.world
  pub scopes : AreScopes sight.world.under.rows.now sight.scopes.now
  pub tops : AreTops sight.world.under.rows.now sight.world.under.places.now sight.scopes.now
  pub imports : AreImports sight.world.under.rows.now t sight.imports.now
  pub seen : SeesImports sight.world.under.rows.now (entries sight.world.under.table.now) t
  pub lang : InPackage sight.world.under.rows.now java_lang 1

-- ---- lists

pub record AreImportRows (p : Rows) (all : List ℕ) : Type 0 where
  pub each : (i : ℕ) → has all i ≡ true → IsImport p i

-- those of which P holds have been added
pub record AddsSuch (P : ℕ → Type 0) (old new : List ℕ) : Type 0 where
  pub each : (d : ℕ) → Decides (has new d) ((has old d ≡ true) ⊎ P d)

-- one of the imports brings d
pub record IsBroughtBy (B : ℕ → ℕ → Type 0) (imports : List ℕ) (d : ℕ) : Type 0 where
  pub import : ℕ
  pub among : has imports import ≡ true
  pub brings : B import d

-- what they bring has been added, but for the rest
pub record IsGathering (B : ℕ → ℕ → Type 0) (imports rest found : List ℕ) : Type 0 where
  pub sound : (d : ℕ) → has found d ≡ true → IsBroughtBy B imports d
  pub told : (i d : ℕ) → has imports i ≡ true → B i d → (has found d ≡ true) ⊎ (has rest i ≡ true)

-- ---- static imports (JLS 7.5.3)

abbrev pub is_static_importable : Rows → ℕ → ℕ → Bool
is_static_importable p u d = is_static p d && can_import p u d

-- a static member of the type that the unit may import
pub record IsReached (p : Rows) (t : Table) (kind : MemberKind) (u x c d : ℕ) : Type 0 where
  pub member : IsMemberAs p t kind c x d
  pub static : IsStatic p d
  pub reached : CanImport p u d

-- such a one of the type that the import names
pub record IsNamedBy (p : Rows) (t : Table) (kind : MemberKind) (u x i d : ℕ) : Type 0 where
  pub of_type : ℕ
  pub names : ImportNames p t i of_type
  pub reached : IsReached p t kind u x of_type d

-- a static member of the name that a single static import brings to a unit, and to a place
pub record IsStaticOf (p : Rows) (t : Table) (kind : MemberKind) (u x d : ℕ) : Type 0 where
  pub brings : StaticImport p t u d
  pub of : IsOf p kind x d

pub record IsStaticAt (p : Rows) (t : Table) (kind : MemberKind) (o x d : ℕ) : Type 0 where
  pub imported : Imported p (StaticImport p t) o d
  pub of : IsOf p kind x d

-- ---- types

-- a type of the name that a single-type import brings to a place
pub record IsSingleAt (p : Rows) (t : Table) (o x d : ℕ) : Type 0 where
  pub imported : Imported p (SingleImport p t) o d
  pub named : name_row p d ≡ x

-- a top-level type of the name in the package
pub record IsTopNamed (p : Rows) (path : List (List ℕ)) (x d : ℕ) : Type 0 where
  pub of : TypeOfPackage p path d
  pub named : name_row p d ≡ x

-- a type of the name that is declared in the type to which the referent refers
pub record IsDeclaredNamed (p : Rows) (a : Referent) (x d : ℕ) : Type 0 where
  pub class : ℕ
  pub level : Option ℕ
  pub refers : a ≡ Declared class level
  pub type : IsType p class
  pub declares : IsDeclaredAs p kind.Type class x d

-- a type of the name, in the package or the type that the name at the row n refers to
abbrev pub IsTypeIn : Rows → Referent → ℕ → ℕ → ℕ → Type 0
IsTypeIn p a n x d = ((a ≡ Package) × IsTopNamed p (spelled p n) x d) ⊎ IsDeclaredNamed p a x d

-- a type of the name that an import on demand has: of the package, or declared in the type, and not inherited by it (JLS 7.5.2)
abbrev pub IsDemandedAs : Rows → Table → ℕ → ℕ → ℕ → Type 0
IsDemandedAs p t x i d = IsTypeIn p (t (i + 1)) (i + 1) x d

-- and that the unit may import
pub record IsDemanded (p : Rows) (t : Table) (u x i d : ℕ) : Type 0 where
  pub has_type : IsDemandedAs p t x i d
  pub reached : CanImport p u d

pub record IsLang (p : Rows) (u x d : ℕ) : Type 0 where
  pub of : IsTopNamed p java_lang x d
  pub reached : CanImport p u d

pub record IsOnDemand (p : Rows) (t : Table) (u x d : ℕ) : Type 0 where
  pub brings : OnDemandImport p t u d
  pub named : name_row p d ≡ x

-- a top-level type of the name in the package of the place
pub record IsBeside (p : Rows) (o x d : ℕ) : Type 0 where
  pub top : IsTopLevel p d
  pub same : SamePackage p o d
  pub named : name_row p d ≡ x

-- of these, where it is told that imports bring a type of the name, those of the unit of the place (JLS 6.4.1, 7.5.1)
abbrev pub is_kept_beside : Rows → ℕ → Bool → ℕ → Bool
is_kept_beside p o has_imported d = not has_imported || same_some (unit_of p d) (unit_of p o)

pub record IsKeptBeside (p : Rows) (o x : ℕ) (has_imported : Bool) (d : ℕ) : Type 0 where
  pub beside : IsBeside p o x d
  pub kept : has_imported ≡ true → TypeOfUnit p o d

-- imports of one name bring the type
abbrev pub IsImportedType : Rows → Table → ℕ → ℕ → ℕ → Type 0
IsImportedType p t o x d = IsStaticAt p t kind.Type o x d ⊎ IsSingleAt p t o x d

-- a type of the name that no type round the place has: one that imports of one name bring, or one of the package
abbrev pub IsOutside : Rows → Table → ℕ → ℕ → ℕ → Type 0
IsOutside p t o x d = IsImportedType p t o x d ⊎ (IsBeside p o x d × ((e : ℕ) → IsImportedType p t o x e → TypeOfUnit p o d))
