-- Types of expressions, computed where the values of constants are known (JLS 15).
use Rattle.std.specs.Prelude.{◌≡◌, ℕ, zero, suc, ◌+◌, Bool, true, false, not, ◌&&◌, ◌||◌, if◌then◌else◌, length, Option, Some, None, option_map, option_and_then, nat_eq}
use Rattle.jr_base.specs.declared.kind.Kind.{Kind}
use Rattle.jr_base.specs.declared.kind.Kind.TheVariants as token
use Rattle.jr_base.specs.declared.kind.Keyword.TheVariants as word
use Rattle.jr_base.specs.declared.kind.Symbol.{Symbol}
use Rattle.jr_base.specs.declared.kind.Symbol.TheVariants as y
use Rattle.jr_base.specs.declared.constant.Const.{Const}
use Rattle.jr_base.specs.declared.constant.Const.TheVariants as c
use Rattle.jr_tree.specs.declared.label.Label.{Label}
use Rattle.jr_tree.specs.declared.label.Label.TheVariants as is
use Rattle.jr_tree.specs.declared.label.Role.TheVariants as role
use Rattle.jr_tree.specs.Rows.{Rows, label, parent, end, role_at}
use Rattle.jr_defs.specs.declared.referent.Element.{Element}
use Rattle.jr_defs.specs.declared.referent.Element.TheVariants as element
use Rattle.jr_defs.specs.declared.referent.RowType.{RowType}
use Rattle.jr_defs.specs.declared.referent.Referent.{Referent}
use Rattle.jr_defs.specs.declared.referent.Referent.TheVariants.{ArrayLength, Declared}
use Rattle.jr_defs.specs.Referents.{Table}
use Rattle.jr_defs.specs.Declarations.{IsString, IsVariable}
use Rattle.jr_defs.specs.Types.{array, plain, class_type, element_of}
use Rattle.jr_defs.specs.Supertypes.{Above}
use Rattle.jr_defs.specs.Operators.{fits}
use Rattle.jr_defs.specs.Typing.{OperatorClass, plus, arithmetic, shift, comparison, equality, bitwise, logical, other, class_of, operator_of}
use Rattle.jr_plain.specs.Search.{first_below}
use Rattle.jr_plain.specs.Same.{same_role, same_type}
use Rattle.jr_plain.specs.Declarations.{is_string, is_variable}
use Rattle.jr_plain.specs.Enclosing.{innermost}
use Rattle.jr_plain.specs.Headed.{IsHeaded}
use Rattle.jr_plain.specs.Instances.{has_instance}
use Rattle.jr_plain.specs.Overloads.{Types}
use Rattle.jr_plain.specs.Supertypes.{is_reference_type, is_null, is_subtype}
use Rattle.jr_plain.specs.Types.{named_type, type_at, type_of_declared}
use Rattle.jr_plain.specs.Conversions.{Constants, of_two, is_boolean, is_void, is_numeric, is_primitive, promoted_type, promoted_both, plain_of, is_plain, is_reference_or_null, is_castable}

-- ---- what is asked so that an expression has one type

-- a name, or a field behind a dot
abbrev pub IsVariableLabel : Label → Type 0
IsVariableLabel (is.Name kind place is_qualified) = Unit {0}
IsVariableLabel is.Select = Unit {0}
IsVariableLabel is.SuperSelect = Unit {0}
IsVariableLabel _ = ⊥

-- the headers stand below types, there is one String, names and fields alone refer to variables, and no two types are above each other
pub record IsTypable (p : Rows) (t : Table) : Type 0 where
  pub headed : IsHeaded p
  pub one_string : (s d : ℕ) → IsString p s → IsString p d → s ≡ d
  pub variable : (n d : ℕ) (level : Option ℕ) → t n ≡ Declared d level → IsVariable p d → IsVariableLabel (label p n)
  pub length_of : (n : ℕ) → t n ≡ ArrayLength → IsVariableLabel (label p n)
  pub acyclic : (d s : ℕ) → Above p t d s → Above p t s d → d ≡ s

-- ---- literals

abbrev pub string_type : Rows → Option RowType
string_type p = option_map class_type (first_below (length p) (is_string p))

-- the type of a literal (JLS 15.8.1)
abbrev pub literal_type : Rows → Kind → Option RowType
literal_type p (token.Int z) = Some (plain element.Int)
literal_type p token.IntMin = Some (plain element.Int)
literal_type p (token.Long z) = Some (plain element.Long)
literal_type p token.LongMin = Some (plain element.Long)
literal_type p (token.Char n) = Some (plain element.Char)
literal_type p (token.Str units) = string_type p
literal_type p (token.Word word.True) = Some (plain element.Boolean)
literal_type p (token.Word word.False) = Some (plain element.Boolean)
literal_type p (token.Word word.Null) = Some (plain element.Null)
literal_type p _ = None

-- ---- operators

abbrev pub is_string_element : Rows → Element → Bool
is_string_element p (element.Class s) = is_string p s
is_string_element p _ = false

abbrev pub is_string_type : Rows → RowType → Bool
is_string_type p a = is_plain (is_string_element p) a

-- two operands that may be compared (JLS 15.21)
abbrev pub is_comparable : Rows → Table → RowType → RowType → Bool
is_comparable p t a b =
    (is_plain is_numeric a && is_plain is_numeric b) || (is_plain is_boolean a && is_plain is_boolean b)
    || (is_reference_or_null a && is_reference_or_null b && (is_castable p t a b || (is_castable p t b a || same_type a b)))

-- the plain type that two plain types give
abbrev pub of_plain : (Element → Element → Option Element) → Option Element → Option Element → Option RowType
of_plain f (Some a) (Some b) = option_map plain (f a b)
of_plain f _ _ = None

abbrev pub from_plain : (Element → Element → Option Element) → RowType → RowType → Option RowType
from_plain f a b = of_plain f (plain_of a) (plain_of b)

abbrev pub shift_type : Element → Element → Option Element
shift_type a b = if is_numeric b then promoted_type a else None

abbrev pub comparison_type : Element → Element → Option Element
comparison_type a b = if is_numeric a && is_numeric b then Some element.Boolean else None

abbrev pub logical_type : Element → Element → Option Element
logical_type a b = if is_boolean a && is_boolean b then Some element.Boolean else None

abbrev pub bitwise_type : Element → Element → Option Element
bitwise_type a b = if is_boolean a && is_boolean b then Some element.Boolean else promoted_both a b

-- a sum of numbers, or a string and anything but void (JLS 15.18)
abbrev pub sum_type : Rows → RowType → RowType → Option RowType
sum_type p a b =
    if is_string_type p a && not (is_plain is_void b) then Some a else if is_string_type p b && not (is_plain is_void a) then Some b else from_plain promoted_both a b

-- the type of an operator on operands of two types (JLS 15.17 to 15.24)
abbrev pub binary_type : Rows → Table → OperatorClass → RowType → RowType → Option RowType
binary_type p t plus a b = sum_type p a b
binary_type p t arithmetic a b = from_plain promoted_both a b
binary_type p t shift a b = from_plain shift_type a b
binary_type p t comparison a b = from_plain comparison_type a b
binary_type p t equality a b = if is_comparable p t a b then Some (plain element.Boolean) else None
binary_type p t bitwise a b = from_plain bitwise_type a b
binary_type p t logical a b = from_plain logical_type a b
binary_type p t other a b = None

-- JLS 15.15.3 to 15.15.6
abbrev pub unary_type : Symbol → Element → Option Element
unary_type y.Plus a = promoted_type a
unary_type y.Minus a = promoted_type a
unary_type y.Tilde a = promoted_type a
unary_type y.Not a = if is_boolean a then Some element.Boolean else None
unary_type _ a = None

abbrev pub is_plus : Symbol → Bool
is_plus y.Plus = true
is_plus _ = false

-- the result of an operator, if any, may be cast to the type
abbrev pub is_cast_back : Rows → Table → RowType → Option RowType → Bool
is_cast_back p t a None = false
is_cast_back p t a (Some r) = is_castable p t r a

-- a compound assignment to a place of the type a (JLS 15.26.2)
abbrev pub is_compound : Rows → Table → Symbol → RowType → RowType → Bool
is_compound p t op a b =
    (is_plus op && is_string_type p a && not (is_plain is_void b))
    || (is_plain is_primitive a && is_plain is_primitive b && is_cast_back p t a (binary_type p t (class_of op) a b))

-- ---- the conditional operator (JLS 15.25)

abbrev pub is_small : Element → Bool
is_small element.Byte = true
is_small element.Short = true
is_small element.Char = true
is_small _ = false

abbrev pub is_int_that_fits : Element → Option Const → Bool
is_int_that_fits a (Some (c.Int z)) = fits a z
is_int_that_fits a _ = false

-- the operand k is a constant int that fits the type a
abbrev pub is_fit : Constants → ℕ → Element → Bool
is_fit constant k a = is_small a && is_int_that_fits a (constant k)

-- the type that two numeric types have of their own
abbrev pub own_type : Constants → ℕ → ℕ → Element → Element → Option Element
own_type constant m k element.Byte element.Short = Some element.Short
own_type constant m k element.Short element.Byte = Some element.Short
own_type constant m k a element.Int = if is_fit constant k a then Some a else None
own_type constant m k element.Int b = if is_fit constant m b then Some b else None
own_type constant m k _ _ = None

abbrev pub or_promoted : Option Element → Option Element → Option Element
or_promoted (Some r) promoted = Some r
or_promoted None promoted = promoted

abbrev pub number_type : Constants → ℕ → ℕ → Element → Element → Option Element
number_type constant m k a b = or_promoted (own_type constant m k a b) (promoted_both a b)

-- the wider of two reference types
abbrev pub wider_type : Rows → Table → RowType → RowType → Option RowType
wider_type p t a b = if is_subtype p t a b then Some b else if is_subtype p t b a then Some a else None

-- the type of ?: on two types that differ
abbrev pub mixed_type : Rows → Table → Constants → ℕ → ℕ → RowType → RowType → Option RowType
mixed_type p t constant m k a b =
    if is_reference_type a && is_reference_type b then wider_type p t a b
    else if is_plain is_null a && is_reference_type b then Some b
    else if is_reference_type a && is_plain is_null b then Some a
    else from_plain (number_type constant m k) a b

abbrev pub conditional_type : Rows → Table → Constants → ℕ → ℕ → RowType → RowType → Option RowType
conditional_type p t constant m k a b = if same_type a b then (if is_plain is_void a then None else Some a) else mixed_type p t constant m k a b

-- ---- expressions

-- what the row m has, if it is a child of n
abbrev pub child : Rows → Types → ℕ → ℕ → Option RowType
child p type_of n m = if nat_eq (parent p m) n then type_of m else None

-- the types of the first, second and third child
abbrev pub first : Rows → Types → ℕ → Option RowType
first p type_of n = child p type_of n (n + 1)

abbrev pub second : Rows → Types → ℕ → Option RowType
second p type_of n = child p type_of n (end p (n + 1))

abbrev pub third : Rows → Types → ℕ → Option RowType
third p type_of n = child p type_of n (end p (end p (n + 1)))

-- the type of a variable, and of the result of a method, that a row refers to
abbrev pub variable_type : Rows → Table → Referent → Option RowType
variable_type p t (Declared d level) = if is_variable p d then type_of_declared p t d else None
variable_type p t ArrayLength = Some (plain element.Int)
variable_type p t _ = None

abbrev pub result_type : Rows → Table → Referent → Option RowType
result_type p t (Declared d level) = if same_role (role_at p d) role.Method then type_of_declared p t d else None
result_type p t _ = None

-- the class as a type, where it has an instance at the place
abbrev pub this_type : Rows → ℕ → ℕ → Option RowType
this_type p n class = if has_instance p n class then Some (class_type class) else None

abbrev pub item_at : ℕ → Element → Option RowType
item_at zero e = None
item_at (suc dims) e = Some (array e dims)

-- the type of the items of an array
abbrev pub item_type : RowType → Option RowType
item_type a = item_at a.dims a.element

abbrev pub tested_type : RowType → Option RowType
tested_type a = if is_reference_or_null a then Some (plain element.Boolean) else None

abbrev pub unary_of : Symbol → RowType → Option RowType
unary_of op a = option_map plain (option_and_then (unary_type op) (plain_of a))

abbrev pub stepped_type : RowType → Option RowType
stepped_type a = if is_plain is_numeric a then Some a else None

-- a result, where the first operand is boolean
abbrev pub chosen_type : Option RowType → Option RowType → Option RowType
chosen_type None result = None
chosen_type (Some test) result = if is_plain is_boolean test then result else None

abbrev pub is_assign : Symbol → Bool
is_assign y.Assign = true
is_assign _ = false

abbrev pub compound_type : Rows → Table → Symbol → RowType → RowType → Option RowType
compound_type p t op a b = if is_compound p t op a b then Some a else None

-- the type of an assignment, by the operator within it
abbrev pub assigned_type : Rows → Table → Types → ℕ → Symbol → Option Symbol → Option RowType
assigned_type p t type_of n sign (Some op) = of_two (compound_type p t op) (first p type_of n) (second p type_of n)
assigned_type p t type_of n sign None = if is_assign sign then first p type_of n else None

-- the type of the expression n, by its label, where the types of its parts are known
abbrev pub typed_by : Rows → Table → Constants → Types → ℕ → Label → Option RowType
typed_by p t constant type_of n (is.Literal token) = literal_type p token
typed_by p t constant type_of n (is.Name kind place is_qualified) = variable_type p t (t n)
typed_by p t constant type_of n is.Select = variable_type p t (t n)
typed_by p t constant type_of n is.SuperSelect = variable_type p t (t n)
typed_by p t constant type_of n (is.Call receiver) = result_type p t (t n)
typed_by p t constant type_of n is.New = option_map class_type (named_type p t n)
typed_by p t constant type_of n (is.NewArray (Some e) lengths extra) = Some (array (element_of e) (lengths + extra))
typed_by p t constant type_of n (is.NewArray None lengths extra) = option_map (λ class. array (element.Class class) (lengths + extra)) (named_type p t n)
typed_by p t constant type_of n is.Cast = if nat_eq (parent p (n + 1)) n then type_at p t (n + 1) else None
typed_by p t constant type_of n is.Paren = first p type_of n
typed_by p t constant type_of n (is.This false) = option_and_then (this_type p n) (innermost p n)
typed_by p t constant type_of n (is.This true) = option_and_then (this_type p n) (named_type p t n)
typed_by p t constant type_of n is.Index = option_and_then item_type (first p type_of n)
typed_by p t constant type_of n is.IsA = option_and_then tested_type (first p type_of n)
typed_by p t constant type_of n (is.Unary op) = option_and_then (unary_of op) (first p type_of n)
typed_by p t constant type_of n (is.PreStep op) = option_and_then stepped_type (first p type_of n)
typed_by p t constant type_of n (is.PostStep op) = option_and_then stepped_type (first p type_of n)
typed_by p t constant type_of n (is.Binary op) = of_two (binary_type p t (class_of op)) (first p type_of n) (second p type_of n)
typed_by p t constant type_of n is.Conditional = chosen_type (first p type_of n)
    (of_two (conditional_type p t constant (end p (n + 1)) (end p (end p (n + 1)))) (second p type_of n) (third p type_of n))
typed_by p t constant type_of n (is.Assign sign) = assigned_type p t type_of n sign (operator_of sign)
typed_by p t constant type_of n _ = None

-- the types of expressions with parts to a depth
abbrev pub typed_within : Rows → Table → Constants → ℕ → Types
typed_within p t constant zero n = None
typed_within p t constant (suc rounds) n = typed_by p t constant (typed_within p t constant rounds) n (label p n)

-- no part is deeper than there are rows
abbrev pub expression_types : Rows → Table → Constants → Types
expression_types p t constant = typed_within p t constant (length p)
