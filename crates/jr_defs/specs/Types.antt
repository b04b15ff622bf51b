-- Types as they are written and declared (JLS 4, 8.3, 8.4.1, 8.4.2, 10.2).
use Rattle.std.specs.Prelude.{◌≡◌, ℕ, suc, ◌+◌, List, [], ◌∷◌, Bool, Option, Some, None, true, false}
use Rattle.jr_tree.specs.declared.tree.Primitive.{Primitive}
use Rattle.jr_tree.specs.declared.tree.Primitive.TheVariants as word
use Rattle.jr_tree.specs.declared.label.Label.{Label}
use Rattle.jr_tree.specs.declared.label.Label.TheVariants as is
use Rattle.jr_tree.specs.declared.label.Modifiers.{Modifiers}
use Rattle.jr_tree.specs.declared.label.Role.TheVariants as role
use Rattle.jr_tree.specs.Rows.{Rows, label, name, parent, end, role_at}
use Rattle.jr_defs.specs.declared.referent.Element.{Element}
use Rattle.jr_defs.specs.declared.referent.Element.TheVariants as element
use Rattle.jr_defs.specs.declared.referent.RowType.{RowType}
use Rattle.jr_defs.specs.declared.referent.Referent.TheVariants.{Declared}
use Rattle.jr_defs.specs.Referents.{Table}
use Rattle.jr_defs.specs.Declarations.{IsType}

abbrev pub element_of : Primitive → Element
element_of word.Boolean = element.Boolean
element_of word.Byte = element.Byte
element_of word.Short = element.Short
element_of word.Char = element.Char
element_of word.Int = element.Int
element_of word.Long = element.Long

-- an array type of so many dimensions, or the element type itself
abbrev pub array : Element → ℕ → RowType
array e dims = record { element = e; dims = dims }

abbrev pub plain : Element → RowType
plain e = array e 0

abbrev pub class_type : ℕ → RowType
class_type c = plain (element.Class c)

-- with so many dimensions more (JLS 8.3, 10.2)
abbrev pub deeper : RowType → ℕ → RowType
deeper a more = array a.element (a.dims + more)

-- the name in the first child of n refers to the type c
pub record NamesType (p : Rows) (t : Table) (n c : ℕ) : Type 0 where
  pub first : parent p (n + 1) ≡ n
  pub level : Option ℕ
  pub refers : t (n + 1) ≡ Declared c level
  pub type : IsType p c

-- the type that is written at n
pub data TypeAt (p : Rows) (t : Table) : ℕ → RowType → Type 0 where
  primitive : {n dims : ℕ} {e : Primitive} → label p n ≡ is.TypeUse (Some e) dims → TypeAt p t n (array (element_of e) dims)
  named : {n c dims : ℕ} → label p n ≡ is.TypeUse None dims → NamesType p t n c → TypeAt p t n (array (element.Class c) dims)

-- the brackets behind a declared name
abbrev pub brackets_of : Label → ℕ
brackets_of (is.Field modifiers dims) = dims
brackets_of (is.Local is_final dims) = dims
brackets_of (is.Parameter is_final dims) = dims
brackets_of _ = 0

-- the row with the type of a field or local: the first below their declaration
abbrev pub type_row : Rows → ℕ → ℕ
type_row p d = parent p d + 1

-- the type of a variable, and that of a method's result
pub data HasType (p : Rows) (t : Table) : ℕ → RowType → Type 0 where
  field : {d : ℕ} {a : RowType} → role_at p d ≡ role.Field → TypeAt p t (type_row p d) a → HasType p t d (deeper a (brackets_of (label p d)))
  local : {d : ℕ} {a : RowType} → role_at p d ≡ role.Local → TypeAt p t (type_row p d) a → HasType p t d (deeper a (brackets_of (label p d)))
  parameter : {d : ℕ} {a : RowType} → role_at p d ≡ role.Parameter → TypeAt p t (d + 1) a → HasType p t d (deeper a (brackets_of (label p d)))
  nothing : {d : ℕ} {m : Modifiers} {b : Bool} → label p d ≡ is.Method m true b → HasType p t d (plain element.Void)
  outcome : {d : ℕ} {m : Modifiers} {b : Bool} {a : RowType} → label p d ≡ is.Method m false b → TypeAt p t (d + 1) a → HasType p t d a

-- the types of the parameters of m from its child k on (JLS 8.4.1)
pub data ParameterTypes (p : Rows) (t : Table) (m : ℕ) : ℕ → List RowType → Type 0 where
  parameter : {k : ℕ} {a : RowType} {more : List RowType} → parent p k ≡ m → role_at p k ≡ role.Parameter → HasType p t k a → ParameterTypes p t m (end p k) more
      → ParameterTypes p t m k (a ∷ more)
  other : {k : ℕ} {all : List RowType} → parent p k ≡ m → (role_at p k ≡ role.Parameter → ⊥) → ParameterTypes p t m (end p k) all → ParameterTypes p t m k all
  done : {k : ℕ} → (parent p k ≡ m → ⊥) → ParameterTypes p t m k []

-- the parameter types of a method or constructor
abbrev pub Parameters : Rows → Table → ℕ → List RowType → Type 0
Parameters p t m all = ParameterTypes p t m (m + 1) all

-- one name and the same parameter types (JLS 8.4.2); for constructors the name is no part
pub record SameSignature (p : Rows) (t : Table) (m k : ℕ) : Type 0 where
  pub named : name p m ≡ name p k
  pub types : List RowType
  pub first : Parameters p t m types
  pub second : Parameters p t k types
