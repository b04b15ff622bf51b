-- What operators make of constants (JLS 5.1.2, 5.1.3, 5.6, 15.15 to 15.25, 15.28).
use Rattle.std.specs.Prelude.{◌≡◌, ℕ, ◌+◌, ◌-◌, ◌*◌, ◌/◌, ◌%◌, ◌^◌, Bool, true, false, not, ◌&&◌, ◌||◌, List, [], ◌∷◌, ◌++◌, ℤ, pos, negsuc, int_lt, int_le, int_div, int_rem, Option, Some, None, codes, decimal, bytes_eq, if◌then◌else◌}
use Rattle.std.specs.Int.{w8, w16, w32, w64, Width, cast_unsigned, cast_signed, int_wrapping_add, int_wrapping_sub, int_wrapping_mul, int_wrapping_div, int_wrapping_neg, int_bit_and, int_bit_or, int_bit_xor, int_bit_not, int_shl, int_shr}
use Rattle.jr_base.specs.declared.kind.Symbol.{Symbol}
use Rattle.jr_base.specs.declared.kind.Symbol.TheVariants as y
use Rattle.jr_base.specs.declared.constant.Const.{Const}
use Rattle.jr_base.specs.declared.constant.Const.TheVariants as c
use Rattle.jr_defs.specs.declared.referent.Element.{Element}
use Rattle.jr_defs.specs.declared.referent.Element.TheVariants as element

-- ---- operands

-- the value of a number below long, and of any number (JLS 5.6.1)
abbrev pub as_int : Const → Option ℤ
as_int (c.Byte z) = Some z
as_int (c.Short z) = Some z
as_int (c.Char n) = Some (pos n)
as_int (c.Int z) = Some z
as_int _ = None

abbrev pub as_long : Const → Option ℤ
as_long (c.Long z) = Some z
as_long (c.Byte z) = Some z
as_long (c.Short z) = Some z
as_long (c.Char n) = Some (pos n)
as_long (c.Int z) = Some z
as_long _ = None

-- a constant as text (JLS 15.18.1.1)
abbrev pub digits : ℤ → List ℕ
digits (pos n) = decimal n
digits (negsuc n) = 45 ∷ decimal (n + 1)

abbrev pub text_of : Const → List ℕ
text_of (c.Bool b) = if b then codes "true" else codes "false"
text_of (c.Byte z) = digits z
text_of (c.Short z) = digits z
text_of (c.Char n) = n ∷ []
text_of (c.Int z) = digits z
text_of (c.Long z) = digits z
text_of (c.Str units) = units

-- ---- conversions

-- what is left of a number in the low bits of a type (JLS 5.1.3)
abbrev pub narrowed : Width → ℤ → ℤ
narrowed w8 z = cast_signed w8 (cast_unsigned w64 z % 2 ^ 8)
narrowed w16 z = cast_signed w16 (cast_unsigned w64 z % 2 ^ 16)
narrowed w32 z = cast_signed w32 (cast_unsigned w64 z % 2 ^ 32)
narrowed _ z = z

abbrev pub number_to : Element → ℤ → Option Const
number_to element.Byte z = Some (c.Byte (narrowed w8 z))
number_to element.Short z = Some (c.Short (narrowed w16 z))
number_to element.Char z = Some (c.Char (cast_unsigned w64 z % 2 ^ 16))
number_to element.Int z = Some (c.Int (narrowed w32 z))
number_to element.Long z = Some (c.Long z)
number_to _ z = None

abbrev pub then_number : Option ℤ → (ℤ → Option Const) → Option Const
then_number None f = None
then_number (Some z) f = f z

-- a cast to a primitive type (JLS 5.5)
abbrev pub cast_to : Element → Const → Option Const
cast_to element.Boolean (c.Bool b) = Some (c.Bool b)
cast_to element.Boolean _ = None
cast_to e v = then_number (as_long v) (number_to e)

-- a number that fits (JLS 5.2)
abbrev pub within : ℤ → ℤ → ℤ → Bool
within low high z = int_le low z && int_le z high

abbrev pub fits : Element → ℤ → Bool
fits element.Byte z = within (negsuc 127) (pos 127) z
fits element.Short z = within (negsuc 32767) (pos 32767) z
fits element.Char z = within (pos 0) (pos 65535) z
fits _ z = false

abbrev pub if_fits : Element → ℤ → Option Const
if_fits e z = if fits e z then number_to e z else None

-- the constant as a value of the type, where it may be assigned to it: by widening, or where it fits (JLS 5.2)
abbrev pub assigned_to : Element → Const → Option Const
assigned_to element.Boolean v = cast_to element.Boolean v
assigned_to element.Long v = cast_to element.Long v
assigned_to element.Int v = then_number (as_int v) (number_to element.Int)
assigned_to e v = then_number (as_int v) (if_fits e)

-- ---- one operand

abbrev pub negated : Const → Option Const
negated (c.Long z) = Some (c.Long (int_wrapping_neg w64 z))
negated v = then_number (as_int v) (λ z. Some (c.Int (int_wrapping_neg w32 z)))

abbrev pub complemented : Const → Option Const
complemented (c.Long z) = Some (c.Long (int_bit_not w64 z))
complemented v = then_number (as_int v) (λ z. Some (c.Int (int_bit_not w32 z)))

abbrev pub promoted : Const → Option Const
promoted (c.Long z) = Some (c.Long z)
promoted v = then_number (as_int v) (λ z. Some (c.Int z))

abbrev pub denied : Const → Option Const
denied (c.Bool b) = Some (c.Bool (not b))
denied _ = None

-- JLS 15.15.3 to 15.15.6
abbrev pub unary_value : Symbol → Const → Option Const
unary_value y.Plus v = promoted v
unary_value y.Minus v = negated v
unary_value y.Tilde v = complemented v
unary_value y.Not v = denied v
unary_value op v = None

-- ---- two operands

abbrev pub is_zero : ℤ → Bool
is_zero z = int_le z (pos 0) && int_le (pos 0) z

abbrev pub equal : ℤ → ℤ → Bool
equal a b = int_le a b && int_le b a

-- two numbers of one type, int or long; no value where the divisor is 0 (JLS 15.17, 15.18.2, 15.20, 15.21, 15.22)
abbrev pub number_value : Width → (ℤ → Const) → Symbol → ℤ → ℤ → Option Const
number_value w of_type y.Star a b = Some (of_type (int_wrapping_mul w a b))
number_value w of_type y.Slash a b = if is_zero b then None else Some (of_type (int_wrapping_div w a b))
number_value w of_type y.Percent a b = if is_zero b then None else Some (of_type (int_rem a b))
number_value w of_type y.Plus a b = Some (of_type (int_wrapping_add w a b))
number_value w of_type y.Minus a b = Some (of_type (int_wrapping_sub w a b))
number_value w of_type y.And a b = Some (of_type (int_bit_and w a b))
number_value w of_type y.Or a b = Some (of_type (int_bit_or w a b))
number_value w of_type y.Caret a b = Some (of_type (int_bit_xor w a b))
number_value w of_type y.Less a b = Some (c.Bool (int_lt a b))
number_value w of_type y.Greater a b = Some (c.Bool (int_lt b a))
number_value w of_type y.LessEqual a b = Some (c.Bool (int_le a b))
number_value w of_type y.GreaterEqual a b = Some (c.Bool (int_le b a))
number_value w of_type y.Equal a b = Some (c.Bool (equal a b))
number_value w of_type y.NotEqual a b = Some (c.Bool (not (equal a b)))
number_value w of_type op a b = None

-- a shift has the type of its left operand, and uses the low 5 or 6 bits of the count (JLS 15.19)
abbrev pub shift_value : Width → ℕ → (ℤ → Const) → Symbol → ℤ → ℤ → Option Const
shift_value w size of_type y.ShiftLeft a b = Some (of_type (int_shl w a (cast_unsigned w64 b % size)))
shift_value w size of_type y.ShiftRight a b = Some (of_type (int_shr a (cast_unsigned w64 b % size)))
shift_value w size of_type y.ShiftRightUnsigned a b = Some (of_type (cast_signed w (shifted (cast_unsigned w a) (cast_unsigned w64 b % size))))
  where
    shifted : ℕ → ℕ → ℕ
    shifted n k = n / 2 ^ k
shift_value w size of_type op a b = None

abbrev pub bool_value : Symbol → Bool → Bool → Option Const
bool_value y.AndAnd a b = Some (c.Bool (a && b))
bool_value y.OrOr a b = Some (c.Bool (a || b))
bool_value y.And a b = Some (c.Bool (a && b))
bool_value y.Or a b = Some (c.Bool (a || b))
bool_value y.Caret a b = Some (c.Bool (if a then not b else b))
bool_value y.Equal a b = Some (c.Bool (if a then b else not b))
bool_value y.NotEqual a b = Some (c.Bool (if a then not b else b))
bool_value op a b = None

-- constant strings that are equal are one object (JLS 3.10.5)
abbrev pub text_value : Symbol → List ℕ → List ℕ → Option Const
text_value y.Plus a b = Some (c.Str (a ++ b))
text_value y.Equal a b = Some (c.Bool (bytes_eq a b))
text_value y.NotEqual a b = Some (c.Bool (not (bytes_eq a b)))
text_value op a b = None

-- a string and another constant: + alone has a value (JLS 15.18.1)
abbrev pub joined : Symbol → List ℕ → List ℕ → Option Const
joined y.Plus a b = Some (c.Str (a ++ b))
joined op a b = None

abbrev pub is_shift : Symbol → Bool
is_shift y.ShiftLeft = true
is_shift y.ShiftRight = true
is_shift y.ShiftRightUnsigned = true
is_shift op = false

abbrev pub two_numbers : Symbol → Option ℤ → Option ℤ → Option ℤ → Option ℤ → Option Const
two_numbers op (Some a) (Some b) _ _ = number_value w32 (λ z. c.Int z) op a b
two_numbers op _ _ (Some a) (Some b) = number_value w64 (λ z. c.Long z) op a b
two_numbers op _ _ _ _ = None

abbrev pub shift_of : Symbol → Option ℤ → Option ℤ → Option ℤ → Option Const
shift_of op (Some a) _ (Some b) = shift_value w32 32 (λ z. c.Int z) op a b
shift_of op None (Some a) (Some b) = shift_value w64 64 (λ z. c.Long z) op a b
shift_of op _ _ _ = None

-- operands that are numbers, as int or as long (JLS 5.6.2)
abbrev pub numbers_value : Symbol → Const → Const → Option Const
numbers_value op a b = if is_shift op then shift_of op (as_int a) (as_long a) (as_long b) else two_numbers op (as_int a) (as_int b) (as_long a) (as_long b)

-- JLS 15.17 to 15.24
abbrev pub binary_value : Symbol → Const → Const → Option Const
binary_value op (c.Str a) (c.Str b) = text_value op a b
binary_value op (c.Str a) b = joined op a (text_of b)
binary_value op a (c.Str b) = joined op (text_of a) b
binary_value op (c.Bool a) (c.Bool b) = bool_value op a b
binary_value op a b = numbers_value op a b

-- ---- the conditional operator

-- the type of ?: on two constants of primitive types (JLS 15.25)
abbrev pub common : Const → Const → Option Element
common (c.Bool a) (c.Bool b) = Some element.Boolean
common (c.Byte a) (c.Byte b) = Some element.Byte
common (c.Short a) (c.Short b) = Some element.Short
common (c.Char a) (c.Char b) = Some element.Char
common (c.Byte a) (c.Short b) = Some element.Short
common (c.Short a) (c.Byte b) = Some element.Short
common (c.Byte a) (c.Int b) = Some (if fits element.Byte b then element.Byte else element.Int)
common (c.Short a) (c.Int b) = Some (if fits element.Short b then element.Short else element.Int)
common (c.Char a) (c.Int b) = Some (if fits element.Char b then element.Char else element.Int)
common (c.Int a) (c.Byte b) = Some (if fits element.Byte a then element.Byte else element.Int)
common (c.Int a) (c.Short b) = Some (if fits element.Short a then element.Short else element.Int)
common (c.Int a) (c.Char b) = Some (if fits element.Char a then element.Char else element.Int)
common a b = common_number (as_int a) (as_int b) (as_long a) (as_long b)
  where
    common_number : Option ℤ → Option ℤ → Option ℤ → Option ℤ → Option Element
    common_number (Some a) (Some b) _ _ = Some element.Int
    common_number _ _ (Some a) (Some b) = Some element.Long
    common_number _ _ _ _ = None

abbrev pub converted : Option Element → Const → Option Const
converted None v = None
converted (Some e) v = cast_to e v

-- JLS 15.25
abbrev pub chosen : Bool → Const → Const → Option Const
chosen test (c.Str a) (c.Str b) = Some (c.Str (if test then a else b))
chosen test a b = converted (common a b) (if test then a else b)
