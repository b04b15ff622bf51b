-- What stands behind a typing in code: its types and values by rows, and when its tables are right (JLS 15).
use Rattle.std.specs.Prelude.{◌≡◌, ℕ, ◌+◌, ◌≤◌, ℤ, List, length, Option, Some, None, option_map, option_and_then, slice_get, slice_index_or}
use Rattle.jr_base.specs.declared.constant.Const.{Const}
use Rattle.jr_base.specs.declared.constant.Const.TheVariants as c
use Rattle.jr_tree.specs.declared.tree.Primitive.{Primitive}
use Rattle.jr_tree.specs.declared.label.Label.{Label}
use Rattle.jr_tree.specs.declared.label.Label.TheVariants as is
use Rattle.jr_tree.specs.Rows.{Rows, label}
use Rattle.jr_defs.specs.declared.referent.Element.TheVariants as element
use Rattle.jr_defs.specs.declared.referent.RowType.{RowType}
use Rattle.jr_defs.specs.Referents.{Table, entries}
use Rattle.jr_defs.specs.Typing.{class_of, operator_of}
use Rattle.jr_defs.specs.Types.{array, element_of}
use Rattle.jr_plain.specs.Search.{first_below}
use Rattle.jr_plain.specs.Declarations.{is_string}
use Rattle.jr_plain.specs.Overloads.{Types}
use Rattle.jr_plain.specs.Types.{named_type, type_at}
use Rattle.jr_plain.specs.Conversions.{Constants, of_two}
use Rattle.jr_plain.specs.Typing as plain
use Rattle.jr_places.specs.declared.places.Places.{Places}
use Rattle.jr_supers.specs.declared.subtypes.Supers.{Supers}
use Rattle.jr_supers.specs.Tabled.{IsSized, first_child}
use Rattle.jr_members.specs.declared.members.World.{World}
use Rattle.jr_members.specs.Sources.{AreSeen}
use Rattle.jr_types.specs.declared.conditional.Operand.{Operand}
use Rattle.jr_types.specs.declared.typing.Typing as code
use Rattle.jr_types.specs.Seen.{operands}

-- the int that a constant is, if it is one
abbrev pub int_of : Option Const → Option ℤ
int_of (Some (c.Int z)) = Some z
int_of _ = None

-- the class String
abbrev pub string_row : Rows → Option ℕ
string_row p = first_below (length p) (λ n. is_string p n)

-- ---- what a typing has

abbrev pub rows_in : World → Rows
rows_in world = world.under.rows.now

abbrev pub table_in : World → Table
table_in world = entries world.under.table.now

abbrev pub types_in : List (Option RowType) → Types
types_in types n = slice_index_or types n None

abbrev pub rows_of : code.Typing → Rows
rows_of typing = rows_in typing.world

abbrev pub table_of : code.Typing → Table
table_of typing = table_in typing.world

abbrev pub types_of : code.Typing → Types
types_of typing = types_in typing.types.now

-- the tables are those of the rows under the table, and the ints are the values of the constants
pub record CanType (constant : Constants) (p : Rows) (t : Table) (places : Places) (supers : Supers) (ints : List (Option ℤ)) (string : Option ℕ) : Type 0 where
  pub sized : IsSized p
  pub seen : AreSeen p t places supers
  pub string_is : string ≡ string_row p
  pub ints_are : (k : ℕ) → slice_index_or ints k None ≡ int_of (constant k)

abbrev pub CanTypeIn : Constants → World → List (Option ℤ) → Option ℕ → Type 0
CanTypeIn constant world ints string = CanType constant (rows_in world) (table_in world) world.under.places.now world.supers.now ints string

abbrev pub IsTyping : Constants → code.Typing → Type 0
IsTyping constant typing = CanTypeIn constant typing.world typing.ints.now typing.string

-- ---- the types of all rows

abbrev pub AreTypes : Rows → Table → Constants → List (Option RowType) → Type 0
AreTypes p t constant types = (n : ℕ) → types_in types n ≡ plain.expression_types p t constant n

-- those of the rows from a number on
abbrev pub AreTypesFrom : Rows → Table → Constants → List (Option RowType) → ℕ → Type 0
AreTypesFrom p t constant types at = (n : ℕ) → at ≤ n → types_in types n ≡ plain.expression_types p t constant n

-- ---- the operands of a row

-- where what is below a row ends
abbrev pub end_if : Rows → ℕ → Option ℕ
end_if p n = option_map (λ r. r.end) (slice_get p n)

abbrev pub third_if : Rows → ℕ → Option ℕ
third_if p n = option_and_then (end_if p) (end_if p (n + 1))

abbrev pub child_if : Rows → Types → ℕ → Option ℕ → Option RowType
child_if p types n k = option_and_then (plain.child p types n) k

-- the operand of `?:` at a row, with its value where it is a constant int
abbrev pub operand_of : RowType → Option ℤ → Operand
operand_of a value = record { ty = a; value = value }

abbrev pub operand_at : Rows → Types → List (Option ℤ) → ℕ → ℕ → Option Operand
operand_at p types ints n k = option_map (λ a. operand_of a (slice_index_or ints k None)) (plain.child p types n k)

abbrev pub operand_if : Rows → Types → List (Option ℤ) → ℕ → Option ℕ → Option Operand
operand_if p types ints n k = option_and_then (operand_at p types ints n) k

abbrev pub conditional_on : Rows → Table → Operand → Operand → Option RowType
conditional_on p t a b = plain.conditional_type p t (operands a.value b.value) 0 1 a.ty b.ty

-- ---- parts of the types

-- the array that is created at n
abbrev pub created_type : Rows → Table → ℕ → Option Primitive → ℕ → Option RowType
created_type p t n (Some e) dims = Some (array (element_of e) dims)
created_type p t n None dims = option_map (λ class. array (element.Class class) dims) (named_type p t n)

-- the type to which n casts
abbrev pub cast_type : Rows → Table → ℕ → Option RowType
cast_type p t n = option_and_then (type_at p t) (first_child p n)

-- the type of an expression that has operands
abbrev pub operated_by : Rows → Table → Constants → Types → ℕ → Label → Option RowType
operated_by p t constant types n is.Paren = plain.first p types n
operated_by p t constant types n is.Index = option_and_then plain.item_type (plain.first p types n)
operated_by p t constant types n is.IsA = option_and_then plain.tested_type (plain.first p types n)
operated_by p t constant types n (is.Unary op) = option_and_then (plain.unary_of op) (plain.first p types n)
operated_by p t constant types n (is.PreStep op) = option_and_then plain.stepped_type (plain.first p types n)
operated_by p t constant types n (is.PostStep op) = option_and_then plain.stepped_type (plain.first p types n)
operated_by p t constant types n (is.Binary op) = of_two (plain.binary_type p t (class_of op)) (plain.first p types n) (plain.second p types n)
operated_by p t constant types n is.Conditional = plain.typed_by p t constant types n is.Conditional
operated_by p t constant types n (is.Assign sign) = plain.assigned_type p t types n sign (operator_of sign)
operated_by p t constant types n _ = None
