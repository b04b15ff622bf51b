-- The rules of compiling on declarations, headers, imports and access (JLS 6.6, 7.5, 7.6, 8, 9), by their numbers in docs/LANGUAGE.md.
use Rattle.std.specs.Prelude.{◌≡◌, ◌⊎◌, ℕ, ◌+◌, ◌<◌, List, ◌++◌, [], ◌∷◌, Option, Some, None}
use Rattle.jr_base.specs.declared.text.Text.{Text}
use Rattle.jr_tree.specs.declared.label.Label.TheVariants as is
use Rattle.jr_tree.specs.declared.label.ImportKind.{ImportKind}
use Rattle.jr_tree.specs.declared.label.ImportKind.TheVariants as importing
use Rattle.jr_tree.specs.declared.label.Role.{Role}
use Rattle.jr_tree.specs.declared.label.Role.TheVariants as role
use Rattle.jr_tree.specs.declared.label.Sought.{Sought}
use Rattle.jr_tree.specs.declared.label.Sought.TheVariants as sought
use Rattle.jr_tree.specs.Rows.{Rows, label, name, parent, end, role_at, sought_at}
use Rattle.jr_defs.specs.declared.referent.Element.TheVariants as element
use Rattle.jr_defs.specs.declared.referent.RowType.{RowType}
use Rattle.jr_defs.specs.declared.referent.Space.TheVariants as space
use Rattle.jr_defs.specs.declared.referent.Referent.TheVariants.{Declared}
use Rattle.jr_defs.specs.Referents.{Table}
use Rattle.jr_defs.specs.Declarations.{Declares, IsType, IsClass, IsInterface, IsVariable, IsOccurrence}
use Rattle.jr_defs.specs.Enclosing.{DeclaredIn, ConstructorOf, IsTopLevel}
use Rattle.jr_defs.specs.Modifiers.{IsFinal, IsInner}
use Rattle.jr_defs.specs.Packages.{InUnit, SamePackage, InPackage, TypeOfPackage, package_of, spelled}
use Rattle.jr_defs.specs.Types.{array, SameSignature, Parameters}
use Rattle.jr_defs.specs.Supertypes.{NamesSuperclass, NamesSuperinterface}
use Rattle.jr_defs.specs.Imports.{ImportOf, ImportNames, ImportedBy}
use Rattle.jr_defs.specs.Scope.{InLocalScope, InParameterScope, InLabelScope}
use Rattle.jr_defs.specs.Access.{IsAccessible}
use Rattle.jr_defs.specs.Constants.{HasConstantForm}
use Rattle.jr_defs.specs.Typing.{TypeOf}
use Rattle.jr_defs.specs.Lookup.{Receiver}

-- two declarations of one body, the first before the second
pub record Twice (p : Rows) (kind : Role) (d e : ℕ) : Type 0 where
  pub of_type : ℕ
  pub first : DeclaredIn p of_type d
  pub second : DeclaredIn p of_type e
  pub kinds : (role_at p d ≡ kind) × (role_at p e ≡ kind)
  pub before : d < e

-- the types of the parameters are the same
pub record SameParameters (p : Rows) (t : Table) (m k : ℕ) : Type 0 where
  pub types : List RowType
  pub first : Parameters p t m types
  pub second : Parameters p t k types

-- a unit stands in the subpackage that has the name of d (JLS 7.1); the unnamed package has no subpackages
pub record IsSubpackage (p : Rows) (d : ℕ) : Type 0 where
  pub path : List Text
  pub inside : InPackage p path d
  pub named : path ≡ [] → ⊥
  pub unit : ℕ
  pub is_unit : label p unit ≡ is.Unit
  pub stands : package_of p unit ≡ path ++ name p d ∷ []

-- e encloses d, at any depth
pub data Encloses (p : Rows) : ℕ → ℕ → Type 0 where
  next : {e d : ℕ} → DeclaredIn p e d → Encloses p e d
  further : {e f d : ℕ} → DeclaredIn p f d → Encloses p e f → Encloses p e d

-- the canonical name of a type: that of its package or of the type that declares it, and its own (JLS 6.7); one of the unnamed package has none
pub data CanonicalName (p : Rows) : ℕ → List Text → Type 0 where
  top : {d : ℕ} {path : List Text} → TypeOfPackage p path d → (path ≡ [] → ⊥) → CanonicalName p d (path ++ name p d ∷ [])
  member : {c d : ℕ} {path : List Text} → DeclaredIn p c d → IsType p d → CanonicalName p c path → CanonicalName p d (path ++ name p d ∷ [])

-- a type that an import names alone
pub record NamesAlone (p : Rows) (t : Table) (u i d : ℕ) : Type 0 where
  pub is_import : ImportOf p u importing.Single i
  pub names : ImportNames p t i d

-- a type that an import brings by its simple name, static or not
pub data BringsType (p : Rows) (t : Table) (u i d : ℕ) : Type 0 where
  single : NamesAlone p t u i d → BringsType p t u i d
  static : ImportedBy p t u i d → IsType p d → BringsType p t u i d

-- a type that the unit itself declares outside any other
pub record DeclaresTop (p : Rows) (u d : ℕ) : Type 0 where
  pub top : IsTopLevel p d
  pub inside : parent p d ≡ u

-- what is sought behind a dot
abbrev pub IsBehindDot : Sought → Type 0
IsBehindDot (sought.Qualified kind) = Unit {0}
IsBehindDot sought.FieldOf = Unit {0}
IsBehindDot sought.MethodOf = Unit {0}
IsBehindDot _ = ⊥

-- the receiver of the occurrence, where it has one
pub record HasReceiver (p : Rows) (t : Table) (o c : ℕ) (through : Option RowType) : Type 0 where
  pub behind : IsBehindDot (sought_at p o)
  pub receiver : Receiver p t (HasConstantForm p t) o c through

-- the type of what the occurrence is reached through
pub data Through (p : Rows) (t : Table) (o : ℕ) : Option RowType → Type 0 where
  receiver : {c : ℕ} {through : Option RowType} → HasReceiver p t o c through → Through p t o through
  without : ((c : ℕ) (through : Option RowType) → HasReceiver p t o c through → ⊥) → Through p t o None

-- what stands before the dot is a value of a class, or an array of one, that is not accessible at the place: so is no member of it (JLS 6.6.1)
pub record IsOfHiddenType (p : Rows) (t : Table) (o : ℕ) : Type 0 where
  pub behind : IsBehindDot (sought_at p o)
  pub first : parent p (o + 1) ≡ o
  pub class : ℕ
  pub dims : ℕ
  pub typed : TypeOf p t (HasConstantForm p t) (o + 1) (array (element.Class class) dims)
  pub hidden : IsAccessible p t class o None → ⊥

-- the rule is broken at the row
pub data Breaks (p : Rows) (t : Table) : ℕ → ℕ → Type 0 where
  two_types : {d e : ℕ} → Twice p role.Type d e → name p d ≡ name p e → Breaks p t 2 e
  two_top_types : {d e : ℕ} → IsTopLevel p d → IsTopLevel p e → SamePackage p d e → name p d ≡ name p e → d < e → Breaks p t 2 e
  type_and_subpackage : {d : ℕ} → IsTopLevel p d → IsSubpackage p d → Breaks p t 2 d
  type_in_its_name : {d e : ℕ} → IsType p d → Encloses p e d → name p d ≡ name p e → Breaks p t 2 d
  two_fields : {d e : ℕ} → Twice p role.Field d e → name p d ≡ name p e → Breaks p t 3 e
  two_methods : {d e : ℕ} → Twice p role.Method d e → SameSignature p t d e → Breaks p t 4 e
  two_constructors : {c d e : ℕ} → ConstructorOf p c d → ConstructorOf p c e → d < e → SameParameters p t d e → Breaks p t 5 e
  local_in_local : {d e : ℕ} → IsVariable p e → InLocalScope p d e → role_at p e ≡ role.Local → name p d ≡ name p e → Breaks p t 6 e
  parameter_in_local : {d e : ℕ} → InLocalScope p d e → role_at p e ≡ role.Parameter → name p d ≡ name p e → Breaks p t 6 e
  in_parameter : {d e : ℕ} → InParameterScope p d e → role_at p e ≡ role.Local ⊎ (role_at p e ≡ role.Parameter) → name p d ≡ name p e → Breaks p t 6 e
  two_parameters : {d e : ℕ} → role_at p d ≡ role.Parameter → role_at p e ≡ role.Parameter → parent p d ≡ parent p e → name p d ≡ name p e → d < e → Breaks p t 6 e
  label_in_label : {d e : ℕ} → InLabelScope p d e → role_at p e ≡ role.Label → name p d ≡ name p e → Breaks p t 7 e
  two_imports : {u i j d e : ℕ} → NamesAlone p t u i d → NamesAlone p t u j e → i < j → name p d ≡ name p e → (d ≡ e → ⊥) → Breaks p t 8 (j + 1)
  import_and_type : {u i d e : ℕ} → NamesAlone p t u i d → DeclaresTop p u e → name p d ≡ name p e → (d ≡ e → ⊥) → Breaks p t 8 (i + 1)
  import_not_canonical : {u i d : ℕ} {form : ImportKind} → ImportOf p u form i → ImportNames p t i d → (CanonicalName p d (spelled p (i + 1)) → ⊥) → Breaks p t 9 (i + 1)
  not_accessible : {o d : ℕ} {level : Option ℕ} {through : Option RowType} → IsOccurrence p o → t o ≡ Declared d level → Through p t o through
      → (IsAccessible p t d o through → ⊥) → Breaks p t 10 o
  of_hidden_type : {o : ℕ} → IsOccurrence p o → IsOfHiddenType p t o → Breaks p t 10 o
  final_superclass : {c n d : ℕ} {level : Option ℕ} → NamesSuperclass p c n → t n ≡ Declared d level → IsFinal p d → Breaks p t 13 n
  interface_as_superclass : {c n d : ℕ} {level : Option ℕ} → NamesSuperclass p c n → t n ≡ Declared d level → IsInterface p d → Breaks p t 13 n
  inner_superclass : {c n d : ℕ} {level : Option ℕ} → NamesSuperclass p c n → t n ≡ Declared d level → IsInner p d → Breaks p t 13 n
  class_as_superinterface : {c n d : ℕ} {level : Option ℕ} → NamesSuperinterface p c n → t n ≡ Declared d level → IsClass p d → Breaks p t 13 n
  superinterface_twice : {c n m d : ℕ} {level other : Option ℕ} → NamesSuperinterface p c n → NamesSuperinterface p c m → n < m → t n ≡ Declared d level
      → t m ≡ Declared d other → Breaks p t 13 m
  imports_nothing : {u i : ℕ} → ImportOf p u importing.StaticSingle i → ((d : ℕ) → ImportedBy p t u i d → ⊥) → Breaks p t 47 i
  imports_another : {u i j d e : ℕ} → ImportedBy p t u i d → IsType p d → BringsType p t u j e → (i ≡ j → ⊥) → name p d ≡ name p e → (d ≡ e → ⊥) → Breaks p t 47 i
  imports_beside : {u i d e : ℕ} → ImportedBy p t u i d → IsType p d → DeclaresTop p u e → name p d ≡ name p e → (d ≡ e → ⊥) → Breaks p t 47 i
