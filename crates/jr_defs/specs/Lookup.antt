-- Lookup: what an occurrence refers to (JLS 6.5, 15.9, 15.11, 15.12, 8.8.7.1, 14.15).
use Rattle.std.specs.Prelude.{◌≡◌, ◌⊎◌, ℕ, suc, ◌+◌, ◌≤◌, List, codes, Option, Some, None}
use Rattle.jr_base.specs.declared.text.Text.{Text}
use Rattle.jr_tree.specs.declared.tree.ThisOrSuper.{ThisOrSuper}
use Rattle.jr_tree.specs.declared.tree.ThisOrSuper.TheVariants as which
use Rattle.jr_tree.specs.declared.label.Role.{Role}
use Rattle.jr_tree.specs.declared.label.Role.TheVariants as role
use Rattle.jr_tree.specs.declared.label.NameKind.{NameKind}
use Rattle.jr_tree.specs.declared.label.NameKind.TheVariants as kind
use Rattle.jr_tree.specs.declared.label.Label.{Label}
use Rattle.jr_tree.specs.declared.label.Label.TheVariants as is
use Rattle.jr_tree.specs.declared.label.ReceiverKind.TheVariants as on
use Rattle.jr_tree.specs.declared.label.Sought.{Sought}
use Rattle.jr_tree.specs.declared.label.Sought.TheVariants as sought
use Rattle.jr_tree.specs.Rows.{Rows, label, name, parent, end, role_at, sought_at}
use Rattle.jr_defs.specs.declared.referent.Space.{Space}
use Rattle.jr_defs.specs.declared.referent.Space.TheVariants as space
use Rattle.jr_defs.specs.declared.referent.Element.{Element}
use Rattle.jr_defs.specs.declared.referent.RowType.{RowType}
use Rattle.jr_defs.specs.declared.referent.Referent.{Referent}
use Rattle.jr_defs.specs.declared.referent.Referent.TheVariants.{Unbound, ArrayLength, Package, Declared}
use Rattle.jr_defs.specs.Referents.{Table, IsAnswer}
use Rattle.jr_defs.specs.Declarations.{Declares, IsType, IsClass, IsObject}
use Rattle.jr_defs.specs.Enclosing.{BodyOf, InBody, Innermost, ConstructorOf}
use Rattle.jr_defs.specs.Modifiers.{IsInner}
use Rattle.jr_defs.specs.Packages.{TypeOfPackage, spelled}
use Rattle.jr_defs.specs.Types.{array, class_type, NamesType}
use Rattle.jr_defs.specs.Supertypes.{Superclass}
use Rattle.jr_defs.specs.Members.{MemberOf, MemberNamed}
use Rattle.jr_defs.specs.Imports.{StaticImport, ImportsHold}
use Rattle.jr_defs.specs.Scope.{Depth, within, Imported, InScope, Visible}
use Rattle.jr_defs.specs.Instances.{HasInstance}
use Rattle.jr_defs.specs.Typing.{TypeOf}
use Rattle.jr_defs.specs.Overloads.{ArgumentTypes, Choice, ImportedChoice}

-- ---- names without a dot

-- a field that is found in the body of a type has that type as level
abbrev pub level_of : Role → Depth → Option ℕ
level_of role.Field (within s) = Some s
level_of _ _ = None

-- visible at the place, with its level
pub record VisibleThrough (p : Rows) (t : Table) (k : Space) (x : Text) (o d : ℕ) (level : Option ℕ) : Type 0 where
  pub depth : Depth
  pub visible : Visible p t k x o d depth
  pub through : level_of (role_at p d) depth ≡ level

-- no declaration of this kind and name is in scope
abbrev pub NoneInScope : Rows → Table → Space → Text → ℕ → Type 0
NoneInScope p t k x o = (d : ℕ) (r : Depth) → InScope p t k x o d r → ⊥

-- a simple name, by its kind; an ambiguous one is a variable if one is in scope, else a type (JLS 6.5.2)
pub data SimpleCandidate (p : Rows) (t : Table) (x : Text) (o : ℕ) : NameKind → ℕ → Option ℕ → Type 0 where
  variable : {d : ℕ} {level : Option ℕ} → VisibleThrough p t space.Variable x o d level → SimpleCandidate p t x o kind.Variable d level
  type : {d : ℕ} {level : Option ℕ} → VisibleThrough p t space.Type x o d level → SimpleCandidate p t x o kind.Type d level
  package_or_type : {d : ℕ} {level : Option ℕ} → VisibleThrough p t space.Type x o d level → SimpleCandidate p t x o kind.PackageOrType d level
  first_variable : {d : ℕ} {level : Option ℕ} → VisibleThrough p t space.Variable x o d level → SimpleCandidate p t x o kind.Ambiguous d level
  then_type : {d : ℕ} {level : Option ℕ} → NoneInScope p t space.Variable x o → VisibleThrough p t space.Type x o d level → SimpleCandidate p t x o kind.Ambiguous d level

-- ---- what stands before a dot

-- what is before the dot of o, in its first child: the class whose members are meant, and the type of the expression if it is one
pub data Receiver (p : Rows) (t : Table) (K : ℕ → Type 0) (o : ℕ) : ℕ → Option RowType → Type 0 where
  object : {c : ℕ} → parent p (o + 1) ≡ o → TypeOf p t K (o + 1) (class_type c) → Receiver p t K o c (Some (class_type c))
  array_object : {c dims : ℕ} {e : Element} → parent p (o + 1) ≡ o → TypeOf p t K (o + 1) (array e (suc dims)) → IsObject p c → Receiver p t K o c (Some (class_type c))
  type : {c : ℕ} → NamesType p t o c → Receiver p t K o c None

-- what is before the dot is a package
pub record PackageBefore (p : Rows) (t : Table) (o : ℕ) (path : List Text) : Type 0 where
  pub first : parent p (o + 1) ≡ o
  pub refers : t (o + 1) ≡ Package
  pub spells : spelled p (o + 1) ≡ path

-- what is before the dot is an array
pub record ArrayBefore (p : Rows) (t : Table) (K : ℕ → Type 0) (o : ℕ) : Type 0 where
  pub first : parent p (o + 1) ≡ o
  pub held : Element
  pub dims : ℕ
  pub type : TypeOf p t K (o + 1) (array held (suc dims))

-- a member of what is before the dot
pub record MemberBefore (p : Rows) (t : Table) (K : ℕ → Type 0) (k : Space) (x : Text) (o d : ℕ) : Type 0 where
  pub class : ℕ
  pub receiver : Option RowType
  pub before : Receiver p t K o class receiver
  pub member : MemberNamed p t k x class d

-- a member type of the type before the dot, or a type of the package before it
pub data TypeBefore (p : Rows) (t : Table) (x : Text) (o d : ℕ) : Type 0 where
  member : {c : ℕ} → NamesType p t o c → MemberNamed p t space.Type x c d → TypeBefore p t x o d
  top : {path : List Text} → PackageBefore p t o path → TypeOfPackage p path d → Declares p space.Type x d → TypeBefore p t x o d

-- a name behind a dot, by its kind; an ambiguous one is a field if there is one, else a type (JLS 6.5.2)
pub data QualifiedCandidate (p : Rows) (t : Table) (K : ℕ → Type 0) (x : Text) (o : ℕ) : NameKind → ℕ → Type 0 where
  variable : {d : ℕ} → MemberBefore p t K space.Variable x o d → QualifiedCandidate p t K x o kind.Variable d
  type : {d : ℕ} → TypeBefore p t x o d → QualifiedCandidate p t K x o kind.Type d
  package_or_type : {d : ℕ} → TypeBefore p t x o d → QualifiedCandidate p t K x o kind.PackageOrType d
  first_field : {d : ℕ} → MemberBefore p t K space.Variable x o d → QualifiedCandidate p t K x o kind.Ambiguous d
  then_type : {d : ℕ} → ((e : ℕ) → MemberBefore p t K space.Variable x o e → ⊥) → TypeBefore p t x o d → QualifiedCandidate p t K x o kind.Ambiguous d

-- ---- super

-- the superclass of the innermost class, where that has an instance (JLS 15.11.2)
pub record SuperOf (p : Rows) (t : Table) (o s : ℕ) : Type 0 where
  pub class : ℕ
  pub innermost : Innermost p o class
  pub instance : HasInstance p o class
  pub above : Superclass p t class s

-- ---- calls

-- where the arguments of a call begin: behind the receiver that is a child, or behind the class that a creation names
abbrev pub arguments_by : Label → Rows → ℕ → ℕ
arguments_by (is.Call on.Expression) p o = end p (o + 1)
arguments_by (is.Call on.Name) p o = end p (o + 1)
arguments_by is.New p o = end p (o + 1)
arguments_by _ p o = o + 1

abbrev pub Arguments : Rows → Table → (ℕ → Type 0) → ℕ → List RowType → Type 0
Arguments p t K o all = ArgumentTypes p t K o (arguments_by (label p o) p o) all

-- the innermost enclosing type that has a member method of the name (JLS 15.12.1)
pub record MethodLevel (p : Rows) (t : Table) (x : Text) (o c : ℕ) : Type 0 where
  pub holds : InBody p c o
  pub some : ℕ
  pub member : MemberNamed p t space.Method x c some
  pub innermost : (e d : ℕ) → InBody p e o → MemberNamed p t space.Method x e d → e ≤ c

-- the methods of the name that static imports of the unit bring
pub record ImportedMethod (p : Rows) (t : Table) (x : Text) (o d : ℕ) : Type 0 where
  pub imported : Imported p (StaticImport p t) o d
  pub declares : Declares p space.Method x d

-- a method without receiver, in the innermost type that has one of the name, else among the imported ones; arguments are seen by their types
pub data MethodCandidate (p : Rows) (t : Table) (x : Text) (o : ℕ) (arguments : List RowType) : ℕ → Option ℕ → Type 0 where
  member : {c d : ℕ} → MethodLevel p t x o c → Choice p t c o None arguments (MemberNamed p t space.Method x c) d → MethodCandidate p t x o arguments d (Some c)
  imported : {d : ℕ} → ((c : ℕ) → MethodLevel p t x o c → ⊥) → ImportedChoice p t o arguments (ImportedMethod p t x o) d → MethodCandidate p t x o arguments d None

-- the innermost enclosing class that has an inner class as member gives its objects their enclosing one (JLS 15.9.2)
pub record EnclosesNew (p : Rows) (t : Table) (o c e : ℕ) : Type 0 where
  pub holds : InBody p e o
  pub member : MemberOf p t e c
  pub innermost : (f : ℕ) → InBody p f o → MemberOf p t f c → f ≤ e

pub data NewLevel (p : Rows) (t : Table) (o c : ℕ) : Option ℕ → Type 0 where
  free : (IsInner p c → ⊥) → NewLevel p t o c None
  inner : {e : ℕ} → IsInner p c → EnclosesNew p t o c e → NewLevel p t o c (Some e)

-- the class whose constructor this(..) or super(..) calls (JLS 8.8.7.1)
pub data CalledClass (p : Rows) (t : Table) (o : ℕ) : ThisOrSuper → ℕ → Type 0 where
  this : {c : ℕ} → Innermost p o c → CalledClass p t o which.This c
  super : {c s : ℕ} → Innermost p o c → Superclass p t c s → CalledClass p t o which.Super s

-- ---- candidates

-- what the occurrence o may refer to, where it seeks so, with this name; labels do not shadow one another (JLS 14.7)
pub data Candidate (p : Rows) (t : Table) (K : ℕ → Type 0) (o : ℕ) (x : Text) : Sought → ℕ → Option ℕ → Type 0 where
  simple : {k : NameKind} {d : ℕ} {level : Option ℕ} → SimpleCandidate p t x o k d level → Candidate p t K o x (sought.Simple k) d level
  qualified : {k : NameKind} {d : ℕ} → QualifiedCandidate p t K x o k d → Candidate p t K o x (sought.Qualified k) d None
  field : {d : ℕ} → MemberBefore p t K space.Variable x o d → Candidate p t K o x sought.FieldOf d None
  super_field : {s d : ℕ} → SuperOf p t o s → MemberNamed p t space.Variable x s d → Candidate p t K o x sought.SuperField d None
  method : {d : ℕ} {all : List RowType} {level : Option ℕ} → Arguments p t K o all → MethodCandidate p t x o all d level → Candidate p t K o x sought.Method d level
  method_of : {c d : ℕ} {receiver : Option RowType} {all : List RowType} → Receiver p t K o c receiver → Arguments p t K o all
      → Choice p t c o receiver all (MemberNamed p t space.Method x c) d → Candidate p t K o x sought.MethodOf d None
  super_method : {s d : ℕ} {all : List RowType} → SuperOf p t o s → Arguments p t K o all → Choice p t s o None all (MemberNamed p t space.Method x s) d
      → Candidate p t K o x sought.SuperMethod d None
  creation : {c d : ℕ} {level : Option ℕ} {all : List RowType} → NamesType p t o c → NewLevel p t o c level → Arguments p t K o all
      → Choice p t c o None all (ConstructorOf p c) d → Candidate p t K o x sought.Creation d level
  constructor : {w : ThisOrSuper} {c d : ℕ} {all : List RowType} → CalledClass p t o w c → Arguments p t K o all → Choice p t c o None all (ConstructorOf p c) d
      → Candidate p t K o x (sought.ConstructorCall w) d None
  own_class : {c : ℕ} → BodyOf p c (parent p o) → Candidate p t K o x sought.OwnClass c None
  labeled : {d : ℕ} {depth : Depth} → InScope p t space.Label x o d depth → Candidate p t K o x sought.Label d None

-- where there is none: a name that may be one of a package is that, `length` of an array is its length, and all else is not bound

abbrev pub MayBePackage : NameKind → Type 0
MayBePackage kind.PackageOrType = Unit {0}
MayBePackage kind.Ambiguous = Unit {0}
MayBePackage _ = ⊥

abbrev pub MayBeLength : Sought → Type 0
MayBeLength (sought.Qualified kind.Variable) = Unit {0}
MayBeLength (sought.Qualified kind.Ambiguous) = Unit {0}
MayBeLength sought.FieldOf = Unit {0}
MayBeLength _ = ⊥

pub data IsPackageName (p : Rows) (t : Table) (o : ℕ) : Sought → Type 0 where
  simple : {k : NameKind} → MayBePackage k → IsPackageName p t o (sought.Simple k)
  qualified : {k : NameKind} {path : List Text} → MayBePackage k → PackageBefore p t o path → IsPackageName p t o (sought.Qualified k)

pub record IsLength (p : Rows) (t : Table) (K : ℕ → Type 0) (o : ℕ) (x : Text) (s : Sought) : Type 0 where
  pub allowed : MayBeLength s
  pub array : ArrayBefore p t K o
  pub named : x ≡ codes "length"

pub data Otherwise (p : Rows) (t : Table) (K : ℕ → Type 0) (o : ℕ) (x : Text) (s : Sought) : Referent → Type 0 where
  package_name : IsPackageName p t o s → Otherwise p t K o x s Package
  length : (IsPackageName p t o s → ⊥) → IsLength p t K o x s → Otherwise p t K o x s ArrayLength
  unbound : (IsPackageName p t o s → ⊥) → (IsLength p t K o x s → ⊥) → Otherwise p t K o x s Unbound

-- the answer at the place o, where it seeks so
abbrev pub LookFor : Rows → Table → (ℕ → Type 0) → ℕ → Text → Sought → Referent → Type 0
LookFor p t K o x s target = IsAnswer (Candidate p t K o x s) (Otherwise p t K o x s) target

-- what the occurrence o refers to, where all else is as the table says; where the row looks for nothing the answer is Unbound
abbrev pub Look : Rows → Table → (ℕ → Type 0) → ℕ → Referent → Type 0
Look p t K o target = LookFor p t K o (name p o) (sought_at p o) target
