-- Operators and conversions of values (JLS 5.1, 5.6, 15.15 to 15.22).
use Rattle.std.specs.Prelude.{ℕ, ◌%◌, ◌/◌, ◌^◌, ◌==◌, Bool, true, false, not, ◌&&◌, ◌||◌, if◌then◌else◌, List, [], ◌∷◌, Option, Some, None, ℤ, pos, int_lt, int_rem, nat_eq}
use Rattle.std.specs.Ordering.{int_eq}
use Rattle.std.specs.Cmp.Lexicographic.{pointwise}
use Rattle.std.specs.Int.{Width, w8, w16, w32, w64, cast_signed, cast_unsigned, int_wrapping_add, int_wrapping_sub, int_wrapping_mul, int_wrapping_div, int_wrapping_neg, int_bit_and, int_bit_or, int_bit_xor, int_bit_not, int_shl, int_shr}
use Rattle.jr_base.specs.Mirror as t
use Rattle.jr_core.specs.declared.operators.BinaryOp.{BinaryOp}
use Rattle.jr_core.specs.declared.operators.BinaryOp.TheVariants as op
use Rattle.jr_core.specs.declared.operators.UnaryOp.{UnaryOp}
use Rattle.jr_core.specs.declared.operators.UnaryOp.TheVariants as un
use Rattle.jr_core.specs.declared.operators.StepOp.{StepOp}
use Rattle.jr_core.specs.declared.operators.StepOp.TheVariants as step
use Rattle.jr_machine_defs.specs.declared.value.Value.{Value}
use Rattle.jr_machine_defs.specs.declared.value.Value.TheVariants as v
use Rattle.jr_machine_defs.specs.declared.heap.Cell.{Cell}
use Rattle.jr_machine_defs.specs.declared.outcome.Fault.TheVariants as fault
use Rattle.jr_machine_defs.specs.declared.outcome.Outcome.{Outcome}
use Rattle.jr_machine_defs.specs.declared.outcome.Outcome.TheVariants as o
use Rattle.jr_machine_defs.specs.declared.number.Number.{Number}
use Rattle.jr_machine_defs.specs.declared.number.Number.TheVariants as n
use Rattle.jr_machine_defs.specs.declared.number.Pair.{Pair}
use Rattle.jr_machine_defs.specs.declared.number.Pair.TheVariants as p
use Rattle.jr_machine_defs.specs.Strings.{shown, joined}

-- ---- numbers

-- unary numeric promotion (JLS 5.6.1)
abbrev pub number_of : Value → Option Number
number_of (v.Byte z) = Some (n.Int z)
number_of (v.Short z) = Some (n.Int z)
number_of (v.Char u) = Some (n.Int (pos u))
number_of (v.Int z) = Some (n.Int z)
number_of (v.Long z) = Some (n.Long z)
number_of value = None

abbrev pub number_value : Number → ℤ
number_value (n.Int z) = z
number_value (n.Long z) = z

-- binary numeric promotion (JLS 5.6.2)
abbrev pub promoted : Number → Number → Pair
promoted (n.Int a) (n.Int b) = p.Ints a b
promoted (n.Int a) (n.Long b) = p.Longs a b
promoted (n.Long a) b = p.Longs a (number_value b)

abbrev pub quotient : Width → (ℤ → Value) → ℤ → ℤ → Outcome
quotient w make a b = if int_eq b (pos 0) then o.Throws fault.Arithmetic else o.Gives (make (int_wrapping_div w a b))

abbrev pub remainder : (ℤ → Value) → ℤ → ℤ → Outcome
remainder make a b = if int_eq b (pos 0) then o.Throws fault.Arithmetic else o.Gives (make (int_rem a b))

-- an operator on two numbers of one width; shifts go by `shifted` (JLS 15.17, 15.18.2, 15.20.1, 15.21.1, 15.22.1)
abbrev pub arithmetic : Width → (ℤ → Value) → BinaryOp → ℤ → ℤ → Outcome
arithmetic w make op.Multiply a b = o.Gives (make (int_wrapping_mul w a b))
arithmetic w make op.Divide a b = quotient w make a b
arithmetic w make op.Remainder a b = remainder make a b
arithmetic w make op.Add a b = o.Gives (make (int_wrapping_add w a b))
arithmetic w make op.Subtract a b = o.Gives (make (int_wrapping_sub w a b))
arithmetic w make op.ShiftLeft a b = o.Unfit
arithmetic w make op.ShiftRight a b = o.Unfit
arithmetic w make op.ShiftRightUnsigned a b = o.Unfit
arithmetic w make op.Less a b = o.Gives (v.Bool (int_lt a b))
arithmetic w make op.Greater a b = o.Gives (v.Bool (int_lt b a))
arithmetic w make op.LessEqual a b = o.Gives (v.Bool (not (int_lt b a)))
arithmetic w make op.GreaterEqual a b = o.Gives (v.Bool (not (int_lt a b)))
arithmetic w make op.Equal a b = o.Gives (v.Bool (int_eq a b))
arithmetic w make op.NotEqual a b = o.Gives (v.Bool (not (int_eq a b)))
arithmetic w make op.And a b = o.Gives (make (int_bit_and w a b))
arithmetic w make op.Xor a b = o.Gives (make (int_bit_xor w a b))
arithmetic w make op.Or a b = o.Gives (make (int_bit_or w a b))

abbrev pub arithmetic_of : BinaryOp → Pair → Outcome
arithmetic_of op (p.Ints a b) = arithmetic w32 v.Int op a b
arithmetic_of op (p.Longs a b) = arithmetic w64 v.Long op a b

-- how far a shift goes: the low 5 or 6 bits of its right operand (JLS 15.19)
abbrev pub distance : ℕ → Number → ℕ
distance size (n.Int z) = cast_unsigned w32 z % size
distance size (n.Long z) = cast_unsigned w64 z % size

-- a shift, of a left operand that is promoted by itself (JLS 15.19)
abbrev pub shifted : Width → (ℤ → Value) → BinaryOp → ℤ → ℕ → Outcome
shifted w make op.ShiftLeft a k = o.Gives (make (int_shl w a k))
shifted w make op.ShiftRight a k = o.Gives (make (int_shr a k))
shifted w make op.ShiftRightUnsigned a k = o.Gives (make (cast_signed w (cast_unsigned w a / 2 ^ k)))
shifted w make op a k = o.Unfit

abbrev pub shifted_by : BinaryOp → Number → Number → Outcome
shifted_by op (n.Int a) b = shifted w32 v.Int op a (distance 32 b)
shifted_by op (n.Long a) b = shifted w64 v.Long op a (distance 64 b)

abbrev pub is_shift : BinaryOp → Bool
is_shift op.ShiftLeft = true
is_shift op.ShiftRight = true
is_shift op.ShiftRightUnsigned = true
is_shift op = false

abbrev pub on_numbers : BinaryOp → Number → Number → Outcome
on_numbers op a b = if is_shift op then shifted_by op a b else arithmetic_of op (promoted a b)

-- ---- other operands

-- an operator on two booleans (JLS 15.21.2, 15.22.2)
abbrev pub on_bools : BinaryOp → Bool → Bool → Outcome
on_bools op.Equal a b = o.Gives (v.Bool (if a then b else not b))
on_bools op.NotEqual a b = o.Gives (v.Bool (if a then not b else b))
on_bools op.And a b = o.Gives (v.Bool (a && b))
on_bools op.Xor a b = o.Gives (v.Bool (if a then not b else b))
on_bools op.Or a b = o.Gives (v.Bool (a || b))
on_bools op a b = o.Unfit

-- the two refer to one object, or are both null (JLS 15.21.3)
abbrev pub same_object : Value → Value → Option Bool
same_object v.Null v.Null = Some true
same_object v.Null (v.Ref b) = Some false
same_object v.Null (v.Text b) = Some false
same_object (v.Ref a) v.Null = Some false
same_object (v.Ref a) (v.Ref b) = Some (a == b)
same_object (v.Ref a) (v.Text b) = Some false
same_object (v.Text a) v.Null = Some false
same_object (v.Text a) (v.Ref b) = Some false
same_object (v.Text a) (v.Text b) = Some (pointwise nat_eq a b)
same_object a b = None

abbrev pub compared : Bool → Option Bool → Outcome
compared is_equal None = o.Unfit
compared is_equal (Some same) = o.Gives (v.Bool (if is_equal then same else not same))

-- an operator on two references: `==`, `!=`, and `+` of strings (JLS 15.21.3, 15.18.1)
abbrev pub on_references : List Cell → BinaryOp → Value → Value → Outcome
on_references heap op.Equal a b = compared true (same_object a b)
on_references heap op.NotEqual a b = compared false (same_object a b)
on_references heap op.Add a b = joined (shown heap a) (shown heap b)
on_references heap op a b = o.Unfit

-- ---- any operands

abbrev pub on_others : List Cell → BinaryOp → Value → Value → Outcome
on_others heap op (v.Bool a) (v.Bool b) = on_bools op a b
on_others heap op a b = on_references heap op a b

abbrev pub on_any : List Cell → BinaryOp → Option Number → Option Number → Value → Value → Outcome
on_any heap op (Some x) (Some y) a b = on_numbers op x y
on_any heap op None y a b = on_others heap op a b
on_any heap op (Some x) None a b = on_others heap op a b

-- `a op b`
abbrev pub binary : List Cell → BinaryOp → Value → Value → Outcome
binary heap op a b = on_any heap op (number_of a) (number_of b) a b

-- `op a` (JLS 15.15.3 to 15.15.6)
abbrev pub unary_of : Width → (ℤ → Value) → UnaryOp → ℤ → Outcome
unary_of w make un.Plus z = o.Gives (make z)
unary_of w make un.Minus z = o.Gives (make (int_wrapping_neg w z))
unary_of w make un.Complement z = o.Gives (make (int_bit_not w z))
unary_of w make un.Not z = o.Unfit

abbrev pub unary_number : UnaryOp → Option Number → Outcome
unary_number op None = o.Unfit
unary_number op (Some (n.Int z)) = unary_of w32 v.Int op z
unary_number op (Some (n.Long z)) = unary_of w64 v.Long op z

abbrev pub unary : UnaryOp → Value → Outcome
unary un.Not (v.Bool value) = o.Gives (v.Bool (not value))
unary op value = unary_number op (number_of value)

-- ---- conversions

-- all but the lowest bits are discarded (JLS 5.1.3)
abbrev pub lowest : Width → ℤ → ℤ
lowest w8 z = cast_signed w8 (cast_unsigned w64 z % 2 ^ 8)
lowest w16 z = cast_signed w16 (cast_unsigned w64 z % 2 ^ 16)
lowest w z = cast_signed w32 (cast_unsigned w64 z % 2 ^ 32)

-- a conversion between numeric types (JLS 5.1.2, 5.1.3)
abbrev pub converted : t.Ty → ℤ → Outcome
converted t.Byte z = o.Gives (v.Byte (lowest w8 z))
converted t.Short z = o.Gives (v.Short (lowest w16 z))
converted t.Char z = o.Gives (v.Char (cast_unsigned w64 z % 2 ^ 16))
converted t.Int z = o.Gives (v.Int (lowest w32 z))
converted t.Long z = o.Gives (v.Long z)
converted ty z = o.Unfit

abbrev pub converted_number : t.Ty → Option Number → Outcome
converted_number ty None = o.Unfit
converted_number ty (Some number) = converted ty (number_value number)

-- a conversion to a primitive type
abbrev pub converted_to : t.Ty → Value → Outcome
converted_to t.Boolean (v.Bool value) = o.Gives (v.Bool value)
converted_to ty value = converted_number ty (number_of value)

-- what a compound assignment or a step gives, cast back to the type of the old value (JLS 15.26.2, 15.14.2)
abbrev pub cast_back : Value → Outcome → Outcome
cast_back (v.Byte old) (o.Gives value) = converted_to t.Byte value
cast_back (v.Short old) (o.Gives value) = converted_to t.Short value
cast_back (v.Char old) (o.Gives value) = converted_to t.Char value
cast_back (v.Int old) (o.Gives value) = converted_to t.Int value
cast_back (v.Long old) (o.Gives value) = converted_to t.Long value
cast_back old outcome = outcome

-- `old op= value`
abbrev pub compound : List Cell → BinaryOp → Value → Value → Outcome
compound heap op old value = cast_back old (binary heap op old value)

abbrev pub step_operator : StepOp → BinaryOp
step_operator step.Increment = op.Add
step_operator step.Decrement = op.Subtract

-- `old ++` or `old --`, of a number
abbrev pub stepped : StepOp → Value → Option Number → Outcome
stepped op old None = o.Unfit
stepped op old (Some number) = cast_back old (on_numbers (step_operator op) number (n.Int (pos 1)))
