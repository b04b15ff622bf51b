-- What a name may refer to behind nothing, a package or a type, and a method behind a type or of an object, where what stands there is said and not read from rows (JLS 6.5, 15.11, 15.12).
use Rattle.std.specs.Prelude.{◌≡◌, ℕ, if◌then◌else◌, List, Option, Some, None}
use Rattle.jr_base.specs.declared.text.Text.{Text}
use Rattle.jr_tree.specs.declared.label.NameKind.{NameKind}
use Rattle.jr_tree.specs.declared.label.NameKind.TheVariants as kind
use Rattle.jr_tree.specs.Rows.{Rows}
use Rattle.jr_defs.specs.declared.referent.Referent.{Referent}
use Rattle.jr_defs.specs.declared.referent.Referent.TheVariants.{Unbound, Package}
use Rattle.jr_defs.specs.declared.referent.RowType.{RowType}
use Rattle.jr_defs.specs.declared.referent.Space.TheVariants as space
use Rattle.jr_defs.specs.Referents.{Table, IsAnswer}
use Rattle.jr_defs.specs.Declarations.{Declares}
use Rattle.jr_defs.specs.Lookup.{SimpleCandidate}
use Rattle.jr_defs.specs.Members.{MemberNamed}
use Rattle.jr_defs.specs.Overloads.{Choice}
use Rattle.jr_defs.specs.Packages.{TypeOfPackage}
use Rattle.jr_plain.specs.Lookup.{may_be_package}
use Rattle.jr_with.specs.World.{Left}
use Rattle.jr_spelling_rules.specs.Naming.{Before, at_start, in_package, in_type}

-- a field of the type (JLS 15.11)
pub data FieldBehind (p : Rows) (t : Table) (x : Text) : Before → ℕ → Type 0 where
  member : {c d : ℕ} → MemberNamed p t space.Variable x c d → FieldBehind p t x (in_type c) d

-- a member type of the type, or a type of the package (JLS 6.5.5.2)
pub data TypeBehind (p : Rows) (t : Table) (x : Text) : Before → ℕ → Type 0 where
  member : {c d : ℕ} → MemberNamed p t space.Type x c d → TypeBehind p t x (in_type c) d
  top : {path : List Text} {d : ℕ} → TypeOfPackage p path d → Declares p space.Type x d → TypeBehind p t x (in_package path) d

-- by its kind; an ambiguous name is a field if there is one, else a type (JLS 6.5.2)
pub data NamedBehind (p : Rows) (t : Table) (x : Text) (b : Before) : NameKind → ℕ → Type 0 where
  variable : {d : ℕ} → FieldBehind p t x b d → NamedBehind p t x b kind.Variable d
  type : {d : ℕ} → TypeBehind p t x b d → NamedBehind p t x b kind.Type d
  package_or_type : {d : ℕ} → TypeBehind p t x b d → NamedBehind p t x b kind.PackageOrType d
  first_field : {d : ℕ} → FieldBehind p t x b d → NamedBehind p t x b kind.Ambiguous d
  then_type : {d : ℕ} → ((e : ℕ) → FieldBehind p t x b e → ⊥) → TypeBehind p t x b d → NamedBehind p t x b kind.Ambiguous d

abbrev pub IsNamedAt : Rows → Table → Text → ℕ → Before → NameKind → ℕ → Option ℕ → Type 0
IsNamedAt p t x o at_start k d level = SimpleCandidate p t x o k d level
IsNamedAt p t x o b k d level = NamedBehind p t x b k d × (level ≡ None)

-- where there is none, behind nothing and in a package: a name that may be one of a package is that
abbrev pub else_behind : Before → NameKind → Referent
else_behind (in_type c) k = Unbound
else_behind b k = if may_be_package k then Package else Unbound

-- what the name refers to
abbrev pub IsFoundAt : Rows → Table → Text → ℕ → Before → NameKind → Referent → Type 0
IsFoundAt p t x o b k a = IsAnswer (λ d level. IsNamedAt p t x o b k d level) (λ other. other ≡ else_behind b k) a

-- a method of the class, through an expression of this type where there is one, that a call with such arguments chooses (JLS 15.12.2)
abbrev pub IsChosenOf : Rows → Table → Text → ℕ → ℕ → Option RowType → List RowType → ℕ → Option ℕ → Type 0
IsChosenOf p t x o c receiver arguments d level = Choice p t c o receiver arguments (MemberNamed p t space.Method x c) d × (level ≡ None)

-- with the types of the arguments of a call
abbrev pub with_types : Left → List RowType → Left
with_types l all = record { named = l.named; value = l.value; path = l.path; arguments = Some all }
