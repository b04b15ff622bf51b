-- Two programs whose declarations correspond: f takes the rows of one to those of the other, and g leads back.
use Rattle.std.specs.Prelude.{◌≡◌, ◌⊎◌, ℕ, ◌<◌, ◌≤◌, List, [], ◌∷◌, Option, Some, None}
use Rattle.jr_base.specs.declared.text.Text.{Text}
use Rattle.jr_tree.specs.declared.tree.ThisOrSuper.TheVariants as which
use Rattle.jr_tree.specs.declared.label.Role.TheVariants as role
use Rattle.jr_tree.specs.declared.label.NameKind.TheVariants as kind
use Rattle.jr_tree.specs.declared.label.Sought.{Sought}
use Rattle.jr_tree.specs.declared.label.Sought.TheVariants as sought
use Rattle.jr_tree.specs.Rows.{Rows, label, name, parent, role_at, sought_at}
use Rattle.jr_defs.specs.declared.referent.Element.{Element}
use Rattle.jr_defs.specs.declared.referent.Element.TheVariants as element
use Rattle.jr_defs.specs.declared.referent.RowType.{RowType}
use Rattle.jr_defs.specs.declared.referent.Referent.{Referent}
use Rattle.jr_defs.specs.declared.referent.Referent.TheVariants.{Unbound, Ambiguous, ArrayLength, Package, Declared}
use Rattle.jr_defs.specs.Referents.{Table}
use Rattle.jr_defs.specs.Declarations.{IsType, IsPrelude}
use Rattle.jr_defs.specs.Enclosing.{BodyOf, InBody, DeclaredIn, ConstructorOf, SameTopLevel}
use Rattle.jr_defs.specs.Modifiers.{access_of}
use Rattle.jr_defs.specs.Packages.{SamePackage, TypeOfPackage}
use Rattle.jr_defs.specs.Types.{NamesType, HasType, Parameters}
use Rattle.jr_defs.specs.Supertypes.{Super, SuperAt, Superclass}
use Rattle.jr_defs.specs.Imports.{SingleImport, StaticImport, OnDemandImport}
use Rattle.jr_defs.specs.Scope.{InLocalScope, InParameterScope, InLabelScope, InOneList, TypeOfUnit, TypeOfOther, Imported, Depth, on_demand, of_package, of_unit, imported, within}
use Rattle.jr_defs.specs.Instances.{HasInstance}
use Rattle.jr_defs.specs.Lookup.{Receiver, PackageBefore, ArrayBefore, Arguments}

-- ---- what goes over

abbrev pub moved_level : (ℕ → ℕ) → Option ℕ → Option ℕ
moved_level f None = None
moved_level f (Some s) = Some (f s)

abbrev pub moved : (ℕ → ℕ) → Referent → Referent
moved f Unbound = Unbound
moved f Ambiguous = Ambiguous
moved f ArrayLength = ArrayLength
moved f Package = Package
moved f (Declared d level) = Declared (f d) (moved_level f level)

abbrev pub moved_element : (ℕ → ℕ) → Element → Element
moved_element f (element.Class c) = element.Class (f c)
moved_element f e = e

abbrev pub moved_type : (ℕ → ℕ) → RowType → RowType
moved_type f a = record { element = moved_element f a.element; dims = a.dims }

abbrev pub moved_types : (ℕ → ℕ) → List RowType → List RowType
moved_types f [] = []
moved_types f (a ∷ all) = moved_type f a ∷ moved_types f all

abbrev pub moved_receiver : (ℕ → ℕ) → Option RowType → Option RowType
moved_receiver f None = None
moved_receiver f (Some a) = Some (moved_type f a)

abbrev pub moved_depth : (ℕ → ℕ) → Depth → Depth
moved_depth f on_demand = on_demand
moved_depth f of_package = of_package
moved_depth f of_unit = of_unit
moved_depth f imported = imported
moved_depth f (within s) = within (f s)

-- ---- what a search reads

-- it reads what stands before the dot as an expression
abbrev pub IsRead : Sought → Type 0
IsRead (sought.Qualified kind.Variable) = Unit {0}
IsRead (sought.Qualified kind.Ambiguous) = Unit {0}
IsRead sought.FieldOf = Unit {0}
IsRead sought.MethodOf = Unit {0}
IsRead _ = ⊥

-- it reads what is in scope, imports among it
abbrev pub IsScoped : Sought → Type 0
IsScoped (sought.Simple k) = Unit {0}
IsScoped sought.Label = Unit {0}
IsScoped _ = ⊥

-- it reads arguments, parameter types and subtypes
abbrev pub IsCall : Sought → Type 0
IsCall sought.Method = Unit {0}
IsCall sought.MethodOf = Unit {0}
IsCall sought.SuperMethod = Unit {0}
IsCall sought.Creation = Unit {0}
IsCall (sought.ConstructorCall w) = Unit {0}
IsCall _ = ⊥

-- ---- declarations

abbrev pub IsDeclared : Rows → ℕ → Type 0
IsDeclared p n = role_at p n ≡ role.Nothing → ⊥

-- what p declares stands in q with the same label and name, in the same types and packages
pub record Alike (p q : Rows) (f g : ℕ → ℕ) : Type 0 where
  pub label_same : (n : ℕ) → IsDeclared p n → label q (f n) ≡ label p n
  pub name_same : (n : ℕ) → IsDeclared p n → name q (f n) ≡ name p n
  pub back : (n : ℕ) → IsDeclared p n → g (f n) ≡ n
  pub declared : (c d : ℕ) → DeclaredIn p c d → DeclaredIn q (f c) (f d)
  pub constructor : (c k : ℕ) → ConstructorOf p c k → ConstructorOf q (f c) (f k)
  pub one_list : (d e : ℕ) → InOneList p d e → InOneList q (f d) (f e)
  pub access_same : (d : ℕ) → IsDeclared p d → access_of q (f d) ≡ access_of p d
  pub same_package : (m n : ℕ) → IsDeclared p m → IsDeclared p n → SamePackage p m n → SamePackage q (f m) (f n)
  pub of_path : (path : List Text) (d : ℕ) → TypeOfPackage p path d → TypeOfPackage q path (f d)
  pub prelude : (x : Text) (c : ℕ) → IsPrelude p x c → IsPrelude q x (f c)

-- besides, the supertypes of the types of C go over; those are the types whose supertypes are read, and what they go over to is in D
pub record Carries (p : Rows) (t : Table) (q : Rows) (u : Table) (f g : ℕ → ℕ) (C D : ℕ → Type 0) : Type 0 where
  pub alike : Alike p q f g
  pub known : (c : ℕ) → C c → IsType p c
  pub goes : (c : ℕ) → C c → D (f c)
  pub super_at : (c n s : ℕ) → C c → SuperAt p t c n s → SuperAt q u (f c) (f n) (f s)
  pub super_known : (c n s : ℕ) → C c → SuperAt p t c n s → C s
  pub place_back : (c n s : ℕ) → C c → SuperAt p t c n s → g (f n) ≡ n
  pub place_order : (c m n r s : ℕ) → C c → SuperAt p t c m r → SuperAt p t c n s → m ≤ n → f m ≤ f n
  pub superclass : (c s : ℕ) → C c → Superclass p t c s → Superclass q u (f c) (f s)

-- and the declared types of variables, results and parameters
pub record Sees (p : Rows) (t : Table) (q : Rows) (u : Table) (f : ℕ → ℕ) : Type 0 where
  pub has_type : (d : ℕ) (a : RowType) → HasType p t d a → HasType q u (f d) (moved_type f a)
  pub parameters : (m : ℕ) (all : List RowType) → Parameters p t m all → Parameters q u (f m) (moved_types f all)

-- ---- places

-- the row is that of a scope which holds the place: the body of a type, or the scope of a local, parameter or label
pub data IsRound (p : Rows) (o : ℕ) : ℕ → Type 0 where
  body : {c : ℕ} → InBody p c o → IsRound p o c
  local : {d : ℕ} → InLocalScope p d o → IsRound p o d
  parameter : {d : ℕ} → InParameterScope p d o → IsRound p o d
  labeled : {d : ℕ} → InLabelScope p d o → IsRound p o d

-- the scopes that hold the place o hold the place o', in the same order
pub record Places (p : Rows) (t : Table) (q : Rows) (u : Table) (f : ℕ → ℕ) (C : ℕ → Type 0) (o o' : ℕ) : Type 0 where
  pub local : (d : ℕ) → InLocalScope p d o → InLocalScope q (f d) o'
  pub parameter : (d : ℕ) → InParameterScope p d o → InParameterScope q (f d) o'
  pub labeled : (d : ℕ) → InLabelScope p d o → InLabelScope q (f d) o'
  pub body : (c : ℕ) → InBody p c o → InBody q (f c) o'
  pub body_known : (c : ℕ) → InBody p c o → C c
  pub order : (m n : ℕ) → IsRound p o m → IsRound p o n → m ≤ n → f m ≤ f n
  pub unit : (d : ℕ) → TypeOfUnit p o d → TypeOfUnit q o' (f d)
  pub other : (d : ℕ) → TypeOfOther p o d → TypeOfOther q o' (f d)
  -- access at the place
  pub same_top : (d : ℕ) → IsDeclared p d → SameTopLevel p d o → SameTopLevel q (f d) o'
  pub same_package : (d : ℕ) → IsDeclared p d → SamePackage p d o → SamePackage q (f d) o'
  pub super_call : sought_at p o ≡ sought.ConstructorCall which.Super → sought_at q o' ≡ sought.ConstructorCall which.Super
  pub instance : (c : ℕ) → HasInstance p o c → HasInstance q o' (f c)
  -- the class whose constructor stands there
  pub own_body : (c : ℕ) → BodyOf p c (parent p o) → BodyOf q (f c) (parent q o')

-- what imports bring to the place goes over
pub record ImportsGo (p : Rows) (t : Table) (q : Rows) (u : Table) (f : ℕ → ℕ) (o o' : ℕ) : Type 0 where
  pub single : (d : ℕ) → Imported p (SingleImport p t) o d → Imported q (SingleImport q u) o' (f d)
  pub static : (d : ℕ) → (role_at p d ≡ role.Method → ⊥) → Imported p (StaticImport p t) o d → Imported q (StaticImport q u) o' (f d)
  pub demanded : (d : ℕ) → Imported p (OnDemandImport p t) o d → Imported q (OnDemandImport q u) o' (f d)

-- what stands before the dot of o, and its arguments, go over to those of o', as far as the search s reads them
pub record Asks (p : Rows) (t : Table) (K : ℕ → Type 0) (q : Rows) (u : Table) (L : ℕ → Type 0) (f g : ℕ → ℕ) (C : ℕ → Type 0) (o o' : ℕ) (s : Sought) : Type 0 where
  pub receiver : IsRead s → (c : ℕ) (through : Option RowType) → Receiver p t K o c through → Receiver q u L o' (f c) (moved_receiver f through)
  pub receiver_known : IsRead s → (c : ℕ) (through : Option RowType) → Receiver p t K o c through → C c
  pub receiver_back : IsRead s → (c : ℕ) (through : Option RowType) → Receiver p t K o c through → moved_receiver g (moved_receiver f through) ≡ through
  pub array : IsRead s → ArrayBefore p t K o → ArrayBefore q u L o'
  pub named : (c : ℕ) → NamesType p t o c → NamesType q u o' (f c)
  pub named_known : (c : ℕ) → NamesType p t o c → C c
  pub packaged : (path : List Text) → PackageBefore p t o path → PackageBefore q u o' path
  pub arguments : IsCall s → (all : List RowType) → Arguments p t K o all → Arguments q u L o' (moved_types f all)
  pub arguments_back : IsCall s → (all : List RowType) → Arguments p t K o all → moved_types g (moved_types f all) ≡ all
  pub imported : IsCall s → (d : ℕ) → Imported p (StaticImport p t) o d → Imported q (StaticImport q u) o' (f d)

-- all that two programs have to agree on, so that an occurrence of one is looked up as one of the other
pub record Corresponds (p : Rows) (t : Table) (K : ℕ → Type 0) (q : Rows) (u : Table) (L : ℕ → Type 0) (f g : ℕ → ℕ) (C D : ℕ → Type 0) (o o' : ℕ) (s : Sought) : Type 0 where
  pub carries : Carries p t q u f g C D
  pub places : Places p t q u f C o o'
  pub imports : IsScoped s → ImportsGo p t q u f o o'
  pub asks : Asks p t K q u L f g C o o' s
  pub sees : IsCall s → Sees p t q u f
  pub wide : IsCall s → (c r : ℕ) → Super p t c r → C c
