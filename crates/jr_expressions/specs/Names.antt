-- Names, fields, `this` and initializers (JLS 6.5.6, 10.6, 10.7, 15.8.3, 15.8.4, 15.11, 15.28).
use Rattle.std.specs.Prelude.{◌≡◌, ℕ, zero, suc, ◌+◌, ◌-◌, Bool, true, false, not, ◌||◌, if◌then◌else◌, List, [], ◌∷◌, Option, Some, None, option_map, is_some, nat_eq}
use Rattle.jr_base.specs.declared.constant.Const.{Const}
use Rattle.jr_core.specs.declared.code.Code.{Code}
use Rattle.jr_core.specs.declared.code.Code.TheVariants as c
use Rattle.jr_tree.specs.declared.label.Label.{Label}
use Rattle.jr_tree.specs.declared.label.Label.TheVariants as is
use Rattle.jr_tree.specs.declared.label.Role.{Role}
use Rattle.jr_tree.specs.declared.label.Role.TheVariants as role
use Rattle.jr_tree.specs.Rows.{label, parent, role_at}
use Rattle.jr_defs.specs.declared.referent.RowType.{RowType}
use Rattle.jr_defs.specs.declared.referent.Referent.{Referent}
use Rattle.jr_defs.specs.declared.referent.Referent.TheVariants as r
use Rattle.jr_defs.specs.Types.{array}
use Rattle.jr_plain.specs.Modifiers.{is_static}
use Rattle.jr_plain.specs.Types.{named_type, type_of_declared}
use Rattle.jr_codes.specs.Facts.{Facts, has_child}
use Rattle.jr_codes.specs.Making.{Below, Made, code, nothing, unknown, code_if, of_none, of_one}

-- the instance of a class, and that of the class as whose member a name was found
abbrev pub this_in : Facts → ℕ → Code
this_in f class = c.This (record { 0 = f.decl class })

abbrev pub object : Facts → Option ℕ → Option Code
object f level = option_map (this_in f) level

-- `this`, or `T.this`
abbrev pub class_of_this : Facts → ℕ → Bool → Option ℕ
class_of_this f n true = named_type f.rows f.refers n
class_of_this f n false = f.around n

abbrev pub this_made : Facts → ℕ → Bool → Below → Made
this_made f n is_qualified parts = of_none parts (code_if (option_map (this_in f) (class_of_this f n is_qualified)))

-- the length of the array before the dot
abbrev pub length_made : Below → Made
length_made parts = of_one parts (λ m a. code (c.Length a))

-- a field of what stands before the dot, unless that is a type
abbrev pub field_behind : Facts → ℕ → ℕ → Below → Made
field_behind f n d [] = code (c.FieldAt None (f.decl d))
field_behind f n d ((m, a) ∷ []) = if nat_eq m (n + 1) then code (c.FieldAt (Some a) (f.decl d)) else unknown
field_behind f n d _ = unknown

-- a field by its simple name: one of the object of the class as whose member it was found
abbrev pub own_field : Facts → ℕ → Option ℕ → Made
own_field f d level = code_if (option_map (λ on. c.FieldAt (Some on) (f.decl d)) (object f level))

abbrev pub field_alone : Facts → ℕ → Option ℕ → Below → Made
field_alone f d level parts = of_none parts (if is_static f.rows d then code (c.FieldAt None (f.decl d)) else own_field f d level)

abbrev pub field_made : Facts → ℕ → ℕ → Option ℕ → Below → Made
field_made f n d level parts = if has_child f n then field_behind f n d parts else field_alone f d level parts

-- a variable by its name; other names are no code
abbrev pub variable_made : Role → Facts → ℕ → ℕ → Option ℕ → Below → Made
variable_made role.Field f n d level parts = field_made f n d level parts
variable_made role.Local f n d level parts = of_none parts (code (c.Var (f.decl d)))
variable_made role.Parameter f n d level parts = of_none parts (code (c.Var (f.decl d)))
variable_made _ f n d level parts = nothing

-- a name that may be constant by its form: a simple one, or one behind that of a type (JLS 15.28)
abbrev pub has_constant_form : Facts → ℕ → Bool
has_constant_form f n = not (has_child f n) || is_some (named_type f.rows f.refers n)

abbrev pub constant_name : Facts → ℕ → ℕ → Option Const
constant_name f n d = if has_constant_form f n then f.variable d else None

abbrev pub declared_made : Option Const → Facts → ℕ → ℕ → Option ℕ → Below → Made
declared_made (Some v) f n d level parts = of_none parts (code (c.Lit (Some v)))
declared_made None f n d level parts = variable_made (role_at f.rows d) f n d level parts

abbrev pub name_made : Referent → Facts → ℕ → Below → Made
name_made r.ArrayLength f n parts = length_made parts
name_made (r.Declared d level) f n parts = declared_made (constant_name f n d) f n d level parts
name_made _ f n parts = nothing

-- `e.name`
abbrev pub select_made : Referent → Facts → ℕ → Below → Made
select_made r.ArrayLength f n parts = length_made parts
select_made (r.Declared d level) f n parts = of_one parts (λ m a. code (c.FieldAt (Some a) (f.decl d)))
select_made _ f n parts = unknown

-- `super.name`
abbrev pub super_made : Option ℕ → Option ℕ → Facts → Below → Made
super_made (Some class) (Some d) f parts = of_none parts (code (c.FieldAt (Some (this_in f class)) (f.decl d)))
super_made _ _ f parts = unknown

-- ---- what an initializer is the value of (JLS 10.6)

abbrev pub item_type : RowType → RowType
item_type a = array a.element (a.dims - 1)

-- the type of the variable or array whose initializer, or an item of which, stands right below a row, which has at most so many rows round it
abbrev pub initialized_by : Label → Facts → ℕ → Option RowType → Option RowType
initialized_by is.List f over outer = option_map item_type outer
initialized_by (is.NewArray primitive lengths more) f over outer = f.typed over
initialized_by _ f over outer = type_of_declared f.rows f.refers over

abbrev pub initialized : Facts → ℕ → ℕ → Option RowType
initialized f zero over = None
initialized f (suc rounds) over = initialized_by (label f.rows over) f over (initialized f rounds (parent f.rows over))

-- the type of what the initializer at a row, or the item of one, is the value of
abbrev pub wanted_type : Facts → ℕ → Option RowType
wanted_type f n = initialized f (n + 1) (parent f.rows n)

-- ---- the same, from a row up to the first one that is no list

abbrev pub is_list : Label → Bool
is_list is.List = true
is_list _ = false

abbrev pub is_new_array : Label → Bool
is_new_array (is.NewArray primitive lengths more) = true
is_new_array _ = false

-- the type of a variable, and of what is initialized right below a row that is no list
abbrev pub declared_type : Facts → ℕ → Option RowType
declared_type f over = type_of_declared f.rows f.refers over

abbrev pub initial_type : Facts → ℕ → Option RowType
initial_type f over = if is_new_array (label f.rows over) then f.typed over else declared_type f over

-- the type with so many dimensions less
abbrev pub lowered : ℕ → RowType → RowType
lowered depth a = array a.element (a.dims - depth)

-- so many lists stand between a row and this one
pub record InLists (f : Facts) (n depth over : ℕ) : Type 0 where
  pub is : (rounds : ℕ) → rounds + depth ≡ n → wanted_type f n ≡ option_map (lowered depth) (initialized f (suc rounds) over)

-- this row is the innermost one round a row and its lists, and no list
pub record IsRoundLists (f : Facts) (n depth over : ℕ) : Type 0 where
  pub rounds : ℕ
  pub last : is_list (label f.rows over) ≡ false
  pub is : wanted_type f n ≡ option_map (lowered depth) (initialized f (suc rounds) over)
