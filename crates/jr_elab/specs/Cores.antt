-- The core of a program: its classes and its bodies (JLS 8, 9).
use Rattle.std.specs.Prelude.{◌≡◌, ℕ, ◌+◌, ◌<◌, Bool, true, false, if◌then◌else◌, List, [], ◌∷◌, ◌++◌, map, reverse, length, flat_map, Option, Some, None, option_map, Result, Ok, Err, nat_lt}
use Rattle.jr_base.specs.declared.ids.DeclId.{DeclId}
use Rattle.jr_base.specs.declared.ids.TypeId.{TypeId}
use Rattle.jr_core.specs.declared.bodies.Body.{Body}
use Rattle.jr_core.specs.declared.bodies.Class.{Class}
use Rattle.jr_core.specs.declared.bodies.Core.{Core}
use Rattle.jr_core.specs.declared.code.Code.{Code}
use Rattle.jr_tree.specs.declared.label.Label.{Label}
use Rattle.jr_tree.specs.declared.label.Label.TheVariants as is
use Rattle.jr_tree.specs.declared.label.Role.TheVariants as role
use Rattle.jr_tree.specs.Rows.{Rows, label, end, role_at}
use Rattle.jr_defs.specs.declared.referent.Element.TheVariants as element
use Rattle.jr_defs.specs.declared.referent.RowType.{RowType}
use Rattle.jr_defs.specs.Supertypes.{Superclass}
use Rattle.jr_defs.specs.Types.{plain}
use Rattle.jr_plain.specs.Declarations.{types, is_interface}
use Rattle.jr_plain.specs.Enclosing.{children, is_body_of, declaring_type}
use Rattle.jr_plain.specs.Modifiers.{is_inner, is_static}
use Rattle.jr_plain.specs.Same.{same_role}
use Rattle.jr_plain.specs.Search.{all_such}
use Rattle.jr_plain.specs.Types.{type_of_declared}
use Rattle.jr_supers.specs.Direct.{FallsFrom}
use Rattle.jr_dispatch.specs.declared.dispatch.Found.{Found}
use Rattle.jr_dispatch.specs.Dispatching.{AreFoundIn}
use Rattle.jr_dispatch.specs.Methods.{IsWholeWorld}
use Rattle.jr_codes.specs.declared.source.Source.{Source}
use Rattle.jr_codes.specs.Facts.{Facts}
use Rattle.jr_codes.specs.Making.{Below}
use Rattle.jr_codes.specs.Reads.{table_of}
use Rattle.jr_expressions.specs.Bodies.{BodyAt, IsCallable, field_place, initialization}
use Rattle.jr_expressions.specs.Expressions.{codes_of}
use Rattle.jr_expressions.specs.Statements.{Parts, PartsAt, codes}
use Rattle.jr_elab.specs.Stacked.{AreRead}

-- each item is told of the number at its place
abbrev pub AreEach : {T : Type 0} → (ℕ → T → Type 0) → List ℕ → List T → Type 0
AreEach P [] [] = Unit {0}
AreEach P (n ∷ ns) (x ∷ xs) = P n x × AreEach P ns xs
AreEach P _ _ = ⊥

-- what was made is added
abbrev pub IsAdded : {T E : Type 0} → Result T E → List T → List T → Type 0
IsAdded (Ok item) old new = new ≡ old ++ item ∷ []
IsAdded (Err fault) old new = ⊥

-- one item more, of which P holds
pub record IsOneMore {T : Type 0} (P : T → Type 0) (old new : List T) : Type 0 where
  pub item : T
  pub is : P item
  pub adds : new ≡ old ++ item ∷ []

-- one item more where that is told, and else none
abbrev pub MayAdd : {T : Type 0} → Bool → (T → Type 0) → List T → List T → Type 0
MayAdd true P old new = IsOneMore P old new
MayAdd false P old new = new ≡ old

-- the type of a declaration, and that at a row, as the core knows them
abbrev pub type_of_decl : DeclId → TypeId
type_of_decl d = record { 0 = d }

abbrev pub type_row : Facts → ℕ → TypeId
type_row f n = type_of_decl (f.decl n)

-- ---- classes and interfaces (JLS 8.1, 9.1)

-- what is found is the type of which P holds, if there is one
abbrev pub IsTypeWhere : Facts → (ℕ → Type 0) → Option TypeId → Type 0
IsTypeWhere f P None = (s : ℕ) → P s → ⊥
IsTypeWhere f P (Some t) = (s : ℕ) × P s × (t ≡ type_row f s)

-- the type, where it is an interface
abbrev pub face_if : Facts → ℕ → List TypeId
face_if f s = if is_interface f.rows s then type_row f s ∷ [] else []

-- the direct superinterfaces as written (JLS 8.1.5, 9.1.3)
pub record AreFaces (f : Facts) (n : ℕ) (all : List TypeId) : Type 0 where
  pub supers : List ℕ
  pub in_order : FallsFrom f.rows f.refers n (length f.rows) (reverse supers)
  pub are : all ≡ flat_map (face_if f) supers

-- the class whose instance encloses each instance (JLS 8.1.3)
abbrev pub outer_of : Rows → ℕ → Option ℕ
outer_of p n = if is_inner p n then declaring_type p n else None

abbrev pub field_if : Facts → ℕ → List DeclId
field_if f k = if same_role (role_at f.rows k) role.Field then f.decl k ∷ [] else []

-- the initializer at a row right below a body, or the fields that it declares (JLS 8.3, 8.6, 8.7)
abbrev pub members_by : Label → Facts → ℕ → List DeclId
members_by (is.Initializer static) f k = f.decl k ∷ []
members_by _ f k = flat_map (field_if f) (children f.rows k)

abbrev pub members_at : Facts → ℕ → List DeclId
members_at f k = members_by (label f.rows k) f k

abbrev pub members_in : Facts → ℕ → ℕ → List DeclId
members_in f n b = if is_body_of f.rows n b then flat_map (members_at f) (children f.rows b) else []

-- the fields and initializers that the body of a type declares, in order of the text
abbrev pub members_of : Facts → ℕ → List DeclId
members_of f n = flat_map (members_in f n) (children f.rows n)

abbrev pub found_ids : Facts → Found → DeclId × DeclId
found_ids f e = (f.decl e.method, f.decl e.found)

-- for each method that a class has, the method that a call of it runs (JLS 15.12.4.4)
pub record AreFoundAs (f : Facts) (n : ℕ) (all : List (DeclId × DeclId)) : Type 0 where
  pub edges : List Found
  pub found : AreFoundIn f.rows f.refers n edges
  pub are : all ≡ map (found_ids f) edges

pub record IsClassOf (f : Facts) (n : ℕ) (c : Class) : Type 0 where
  pub id_is : c.id ≡ type_row f n
  pub parent_is : IsTypeWhere f (Superclass f.rows f.refers n) c.parent
  pub faces_are : AreFaces f n c.faces
  pub outer_is : c.outer ≡ option_map (type_row f) (outer_of f.rows n)
  pub members_are : c.members ≡ members_of f n
  pub found_are : AreFoundAs f n c.found

-- ---- bodies

abbrev pub declares_body : Label → Bool
declares_body (is.Field modifiers dims) = true
declares_body (is.Method modifiers is_void has_body) = true
declares_body (is.Constructor modifiers) = true
declares_body is.DefaultConstructor = true
declares_body (is.Initializer static) = true
declares_body _ = false

-- the type of what a body gives back, which that of a field has not (JLS 14.17)
abbrev pub outcome_by : Label → Facts → ℕ → Option RowType
outcome_by (is.Field modifiers dims) f n = None
outcome_by (is.Method modifiers is_void has_body) f n = type_of_declared f.rows f.refers n
outcome_by _ f n = Some (plain element.Void)

-- the rows below the row have parts
pub record HasPartsAt (f : Facts) (outcome : Option RowType) (n : ℕ) : Type 0 where
  pub below : Parts
  pub parts : PartsAt f outcome (n + 1) (end f.rows n) below

-- the rows of each body have parts
abbrev pub HaveParts : Facts → Type 0
HaveParts f = (n : ℕ) → n < length f.rows → declares_body (label f.rows n) ≡ true → HasPartsAt f (outcome_by (label f.rows n) f n) n

-- the code that stands first, and the one that does if its row stands before this one
abbrev pub first_code : Below → Option Code
first_code [] = None
first_code (part ∷ all) = Some part.1

abbrev pub first_before : ℕ → Below → Option Code
first_before stop [] = None
first_before stop (part ∷ all) = if nat_lt part.0 stop then Some part.1 else None

-- the code of the rows below the row
pub record IsCodeBelow (f : Facts) (outcome : Option RowType) (n : ℕ) (code : List Code) : Type 0 where
  pub below : Parts
  pub parts : PartsAt f outcome (n + 1) (end f.rows n) below
  pub is : code ≡ codes_of (codes below)

-- the first code of the rows below the row, if there is one
pub record IsValueBelow (f : Facts) (outcome : Option RowType) (n : ℕ) (value : Option Code) : Type 0 where
  pub below : Parts
  pub parts : PartsAt f outcome (n + 1) (end f.rows n) below
  pub is : value ≡ first_code (codes below)

-- the assignment of its initializer to the field at the row, in this class, if it has one (JLS 8.3.2)
pub record IsInitialization (f : Facts) (class n : ℕ) (code : List Code) : Type 0 where
  pub below : Parts
  pub parts : PartsAt f None (n + 1) (end f.rows n) below
  pub is : code ≡ initialization (field_place f class n) (codes below)

-- a method, by the type of its result
pub record IsMethodBy (f : Facts) (n : ℕ) (b : Body) : Type 0 where
  pub outcome : RowType
  pub has : type_of_declared f.rows f.refers n ≡ Some outcome
  pub is : IsCallable f n (is_static f.rows n) outcome b

-- ---- the core of a program

-- a class for each type, and a body for each row that declares one, in order of the rows
pub record IsCoreOf (f : Facts) (core : Core) : Type 0 where
  pub classes_are : AreEach (IsClassOf f) (types f.rows) core.classes
  pub bodies_are : AreEach (BodyAt f) (all_such (length f.rows) (λ n. declares_body (label f.rows n))) core.bodies

-- the tables are read at each row, and the world is that of the program under its table
pub record IsReadWhole (s : Source) : Type 0 where
  pub reads : AreRead s
  pub whole : IsWholeWorld (table_of s) s.view.now.sight.world
