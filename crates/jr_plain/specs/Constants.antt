-- Constant expressions and constant variables with their values, computed (JLS 4.12.4, 15.28).
use Rattle.std.specs.Prelude.{ℕ, zero, suc, ◌+◌, Bool, true, false, ◌&&◌, if◌then◌else◌, List, [], ◌∷◌, ◌++◌, length, Option, Some, None, is_some, option_and_then, nat_eq}
use Rattle.jr_base.specs.declared.constant.Const.{Const}
use Rattle.jr_base.specs.declared.constant.Const.TheVariants as c
use Rattle.jr_tree.specs.declared.label.Label.{Label}
use Rattle.jr_tree.specs.declared.label.Label.TheVariants as is
use Rattle.jr_tree.specs.declared.label.NameKind.TheVariants as kind
use Rattle.jr_tree.specs.declared.label.Sought.{Sought}
use Rattle.jr_tree.specs.declared.label.Sought.TheVariants as sought
use Rattle.jr_tree.specs.Rows.{Rows, label, parent, end, sought_at}
use Rattle.jr_defs.specs.declared.referent.Element.{Element}
use Rattle.jr_defs.specs.declared.referent.Element.TheVariants as element
use Rattle.jr_defs.specs.declared.referent.RowType.{RowType}
use Rattle.jr_defs.specs.declared.referent.Referent.{Referent}
use Rattle.jr_defs.specs.declared.referent.Referent.TheVariants.{Declared}
use Rattle.jr_defs.specs.Referents.{Table}
use Rattle.jr_defs.specs.Operators.{cast_to, assigned_to, unary_value, binary_value, chosen}
use Rattle.jr_defs.specs.Constants.{literal_value}
use Rattle.jr_plain.specs.Search.{gathered, if_empty}
use Rattle.jr_plain.specs.Declarations.{is_string, is_variable}
use Rattle.jr_plain.specs.Modifiers.{is_final}
use Rattle.jr_plain.specs.Types.{named_type, type_at, type_of_declared}
use Rattle.jr_plain.specs.Conversions.{Constants, of_two}

-- ---- conversions of values

-- a conversion to an element type
abbrev pub Conversion : Type 0
Conversion = Element → Const → Option Const

abbrev pub or_value : Option Const → Option Const → Option Const
or_value (Some v) second = Some v
or_value None second = second

-- a string as a value of the type String
abbrev pub text_as : Rows → Element → Const → Option Const
text_as p (element.Class s) (c.Str units) = if is_string p s then Some (c.Str units) else None
text_as p _ _ = None

abbrev pub value_as : Rows → Conversion → ℕ → Element → Const → Option Const
value_as p via zero e v = or_value (via e v) (text_as p e v)
value_as p via (suc dims) e v = None

-- a value as one of a type, by a conversion of primitive types or as the same string (JLS 5.2, 5.5)
abbrev pub converted_as : Rows → Conversion → RowType → Const → Option Const
converted_as p via a v = value_as p via a.dims a.element v

-- ---- one row, where the values of others are known

abbrev pub part : Rows → Constants → ℕ → ℕ → Option Const
part p values n m = if nat_eq (parent p m) n then values m else None

abbrev pub is_value : Label → Bool
is_value is.Value = true
is_value _ = false

-- the variable d is final and has an initializer
abbrev pub is_initialized : Rows → ℕ → Bool
is_initialized p d = is_variable p d && is_final p d && nat_eq (parent p (d + 1)) d && is_value (label p (d + 1)) && nat_eq (parent p (d + 2)) (d + 1)

-- the value of a constant variable
abbrev pub variable_value : Rows → Table → Constants → ℕ → Option Const
variable_value p t values d = if is_initialized p d then of_two (converted_as p assigned_to) (type_of_declared p t d) (values (d + 2)) else None

abbrev pub referred_value : Rows → Table → Constants → Referent → Option Const
referred_value p t values (Declared d level) = variable_value p t values d
referred_value p t values _ = None

abbrev pub reference_value : Rows → Table → (ℕ → Bool) → Constants → ℕ → Option Const
reference_value p t k values n = if k n then referred_value p t values (t n) else None

abbrev pub chosen_value : Option Const → Option Const → Option Const → Option Const
chosen_value (Some (c.Bool test)) first second = of_two (chosen test) first second
chosen_value _ first second = None

-- the value of the expression n, by its label; the references that k picks are read as constants
abbrev pub constant_by : Rows → Table → (ℕ → Bool) → Constants → ℕ → Label → Option Const
constant_by p t k values n (is.Literal token) = literal_value token
constant_by p t k values n (is.Name kind place is_qualified) = reference_value p t k values n
constant_by p t k values n is.Select = reference_value p t k values n
constant_by p t k values n is.SuperSelect = reference_value p t k values n
constant_by p t k values n is.Paren = part p values n (n + 1)
constant_by p t k values n is.Cast = if nat_eq (parent p (n + 1)) n then of_two (converted_as p cast_to) (type_at p t (n + 1)) (part p values n (end p (n + 1))) else None
constant_by p t k values n (is.Unary op) = option_and_then (unary_value op) (part p values n (n + 1))
constant_by p t k values n (is.Binary op) = of_two (binary_value op) (part p values n (n + 1)) (part p values n (end p (n + 1)))
constant_by p t k values n is.Conditional = chosen_value (part p values n (n + 1)) (part p values n (end p (n + 1))) (part p values n (end p (end p (n + 1))))
constant_by p t k values n _ = None

-- ---- all rows

-- rows with the values that were found
abbrev pub Values : Type 0
Values = List (ℕ × Const)

abbrev pub value_at : Values → Constants
value_at [] n = None
value_at (one ∷ more) n = if nat_eq one.0 n then Some one.1 else value_at more n

-- a new value of the row, where it had none
abbrev pub new_value : ℕ → Option Const → Option Const → Values
new_value n None (Some v) = (n, v) ∷ []
new_value n _ _ = []

-- the values that follow from others
abbrev pub new_values : Rows → Table → (ℕ → Bool) → Values → Values
new_values p t k set = gathered (length p) (λ n. new_value n (value_at set n) (constant_by p t k (value_at set) n (label p n)))

-- the values grow by what follows from them, until nothing new does, or so many times
abbrev pub grown_values : Rows → Table → (ℕ → Bool) → ℕ → Values → Values
grown_values p t k zero set = set
grown_values p t k (suc rounds) set = let new = new_values p t k set in let more = grown_values p t k rounds (set ++ new) in if_empty new set more

-- each round finds the value of a row
abbrev pub constant_values : Rows → Table → (ℕ → Bool) → Values
constant_values p t k = grown_values p t k (length p) []

-- the values of constant expressions
abbrev pub constants : Rows → Table → (ℕ → Bool) → Constants
constants p t k = let values = constant_values p t k in λ n. value_at values n

-- ---- references that may be constant by their form (JLS 15.28)

abbrev pub has_form : Rows → Table → ℕ → Sought → Bool
has_form p t n (sought.Simple kind.Variable) = true
has_form p t n (sought.Qualified kind.Variable) = is_some (named_type p t n)
has_form p t n _ = false

-- a simple name, or TypeName.Identifier
abbrev pub has_constant_form : Rows → Table → ℕ → Bool
has_constant_form p t n = has_form p t n (sought_at p n)
