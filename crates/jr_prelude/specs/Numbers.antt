-- The declarations of the prelude that the reference machine knows by number (JLS 4.3.2, 4.3.3, 8.4, 11.1.1).
use Rattle.std.specs.Prelude.{◌≡◌, ◌≢◌, ℕ, zero, suc, ◌+◌, ◌-◌, ◌<◌, List, [], ◌∷◌, ◌++◌, Option, Some, None, Contains, map, codes, nat_eq, if◌then◌else◌}
use Rattle.std.specs.List.{AllByRecursion}
use Rattle.jr_base.specs.declared.ids.DeclId.{DeclId}
use Rattle.jr_base.specs.declared.text.Text.{Text}
use Rattle.jr_tree.specs.declared.tree.Base.{Base}
use Rattle.jr_tree.specs.declared.tree.Base.TheVariants as base
use Rattle.jr_tree.specs.declared.tree.Primitive.{Primitive}
use Rattle.jr_tree.specs.declared.tree.Primitive.TheVariants as primitive
use Rattle.jr_tree.specs.declared.tree.TypeUse.{TypeUse}
use Rattle.jr_tree.specs.declared.label.Label.{Label}
use Rattle.jr_tree.specs.declared.label.Label.TheVariants as is
use Rattle.jr_tree.specs.declared.label.Role.TheVariants as role
use Rattle.jr_tree.specs.Rows.{Rows, label, name, parent, end, role_at}
use Rattle.jr_defs.specs.Declarations.{IsClass}
use Rattle.jr_defs.specs.Enclosing.{DeclaredIn}
use Rattle.jr_defs.specs.Numbers.{units_before, IsDeclaration}
use Rattle.jr_defs.specs.Packages.{spelled, package_of}
use Rattle.jr_machine_defs.specs.declared.outcome.Fault.TheVariants as fault
use Rattle.jr_machine_defs.specs.Prelude.{object_class, string_class, fault_class, to_string_method, length_method, char_at_method, equals_method, print_method}
use Rattle.jr_machine_defs.specs.Renamed.{IsOwn}
use Rattle.jr_prelude.specs.Lang.{primitive_type, object_type, string_type}

-- ---- the types of parameters, as they are written (JLS 8.4.1)

-- a primitive type, or the name below the row
abbrev pub base_at : Option Primitive → Rows → ℕ → Base
base_at (Some word) p n = base.Primitive word
base_at None p n = base.Named (record { parts = spelled p (n + 1) })

-- the type at the row, with so many brackets more (JLS 10.2)
abbrev pub type_by : Label → ℕ → Rows → ℕ → List TypeUse
type_by (is.TypeUse word dims) more p n = record { base = base_at word p n; dims = dims + more } ∷ []
type_by _ more p n = []

abbrev pub parameter_by : Label → Rows → ℕ → List TypeUse
parameter_by (is.Parameter is_final dims) p k = type_by (label p (k + 1)) dims p (k + 1)
parameter_by _ p k = []

-- of the parameters right below m among so many rows from k on
abbrev pub types_among : Rows → ℕ → ℕ → ℕ → List TypeUse
types_among p m k zero = []
types_among p m k (suc more) = (if nat_eq (parent p k) m then parameter_by (label p k) p k else []) ++ types_among p m (k + 1) more

abbrev pub parameter_types : Rows → ℕ → List TypeUse
parameter_types p m = types_among p m (m + 1) (end p m - (m + 1))

-- ---- classes and methods of the prelude

-- the class of this name that the unit of the prelude with this package declares
pub record IsClassOfPrelude (p : Rows) (path : List Text) (x : Text) (c : ℕ) : Type 0 where
  pub class : IsClass p c
  pub named : name p c ≡ x
  pub top : label p (parent p c) ≡ is.Unit
  pub in_prelude : units_before p (parent p c) < 2
  pub in_package : package_of p (parent p c) ≡ path

-- the method of this name, with parameters of these types, that such a class declares
pub record IsMethodOfPrelude (p : Rows) (path : List Text) (class x : Text) (types : List TypeUse) (m : ℕ) : Type 0 where
  pub method : role_at p m ≡ role.Method
  pub named : name p m ≡ x
  pub takes : parameter_types p m ≡ types
  pub holder : ℕ
  pub of_class : IsClassOfPrelude p path class holder
  pub declared : DeclaredIn p holder m

-- such a class, or such a method
pub data Known : Type 0 where
  Class : List Text → Text → Known
  Method : List Text → Text → Text → List TypeUse → Known

abbrev pub IsKnown : Rows → Known → ℕ → Type 0
IsKnown p (Class path x) d = IsClassOfPrelude p path x d
IsKnown p (Method path class x types) d = IsMethodOfPrelude p path class x types d

-- ---- their numbers

-- there is one declaration that is so, and it alone has the number
pub record HasNumber (p : Rows) (number : DeclId) (known : Known) : Type 0 where
  pub row : ℕ
  pub such : IsKnown p known row
  pub once : (d : ℕ) → IsKnown p known d → d ≡ row
  pub numbered : IsDeclaration p row number
  pub alone : (d : ℕ) → role_at p d ≢ role.Nothing → IsDeclaration p d number → d ≡ row

abbrev pub lang : List Text
lang = codes "java" ∷ codes "lang" ∷ []

abbrev pub io : List Text
io = codes "java" ∷ codes "io" ∷ []

-- what the machine knows, with the numbers by which it does
abbrev pub machine_numbers : List (DeclId × Known)
machine_numbers =
    (object_class.0, Class lang (codes "Object"))
    ∷ (to_string_method, Method lang (codes "Object") (codes "toString") [])
    ∷ (string_class.0, Class lang (codes "String"))
    ∷ (length_method, Method lang (codes "String") (codes "length") [])
    ∷ (char_at_method, Method lang (codes "String") (codes "charAt") (primitive_type primitive.Int ∷ []))
    ∷ (equals_method, Method lang (codes "String") (codes "equals") (object_type ∷ []))
    ∷ (print_method, Method io (codes "PrintStream") (codes "print") (string_type ∷ []))
    ∷ ((fault_class fault.Arithmetic).0, Class lang (codes "ArithmeticException"))
    ∷ ((fault_class fault.NullPointer).0, Class lang (codes "NullPointerException"))
    ∷ ((fault_class fault.ClassCast).0, Class lang (codes "ClassCastException"))
    ∷ ((fault_class fault.ArrayStore).0, Class lang (codes "ArrayStoreException"))
    ∷ ((fault_class fault.NegativeArraySize).0, Class lang (codes "NegativeArraySizeException"))
    ∷ ((fault_class fault.ArrayIndex).0, Class lang (codes "ArrayIndexOutOfBoundsException"))
    ∷ ((fault_class fault.StringIndex).0, Class lang (codes "StringIndexOutOfBoundsException"))
    ∷ []

abbrev pub HasMachineNumbers : Rows → Type 0
HasMachineNumbers p = AllByRecursion (λ e. HasNumber p e.0 e.1) machine_numbers

-- each declaration that it knows by itself is listed
abbrev pub ListsAllOwn : Type 0
ListsAllOwn = (number : DeclId) → IsOwn number → Contains (map (λ e. e.0) machine_numbers) number
