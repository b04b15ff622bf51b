-- What elaboration reads of a program, and types in a core.
use Rattle.std.specs.Prelude.{ℕ, zero, suc, ◌+◌, Bool, List, Option, nat_lt}
use Rattle.jr_base.specs.declared.ids.DeclId.{DeclId}
use Rattle.jr_base.specs.declared.constant.Const.{Const}
use Rattle.jr_base.specs.declared.ty.Ty.{Ty}
use Rattle.jr_base.specs.declared.ty.Ty.TheVariants as ty
use Rattle.jr_tree.specs.Rows.{Rows, end}
use Rattle.jr_defs.specs.declared.referent.Element.{Element}
use Rattle.jr_defs.specs.declared.referent.Element.TheVariants as element
use Rattle.jr_defs.specs.declared.referent.RowType.{RowType}
use Rattle.jr_defs.specs.Referents.{Table}

-- the rows of a program and to what they refer; and of each row the type of its expression, the value of the expression, where that is constant, the
-- value of the variable that it declares, where that is a constant one, the parameter types of the method, the innermost class round it, and the
-- declaration by which a core knows it; and which types are subtypes of which
pub record Facts : Type 0 where
  pub rows : Rows
  pub refers : Table
  pub typed : ℕ → Option RowType
  pub value : ℕ → Option Const
  pub variable : ℕ → Option Const
  pub parameters : ℕ → Option (List RowType)
  pub around : ℕ → Option ℕ
  pub decl : ℕ → DeclId
  pub is_subtype : RowType → RowType → Bool

-- the element type, and the type, in a core (JLS 4)
abbrev pub element_in : Facts → Element → Ty
element_in f element.Boolean = ty.Boolean
element_in f element.Byte = ty.Byte
element_in f element.Short = ty.Short
element_in f element.Char = ty.Char
element_in f element.Int = ty.Int
element_in f element.Long = ty.Long
element_in f element.Null = ty.Null
element_in f element.Void = ty.Void
element_in f (element.Class c) = ty.Class (record { 0 = f.decl c })

abbrev pub arrays : ℕ → Ty → Ty
arrays zero item = item
arrays (suc dims) item = ty.Array (arrays dims item)

abbrev pub type_in : Facts → RowType → Ty
type_in f a = arrays a.dims (element_in f a.element)

-- something stands below the row
abbrev pub has_child : Facts → ℕ → Bool
has_child f n = nat_lt (n + 1) (end f.rows n)
