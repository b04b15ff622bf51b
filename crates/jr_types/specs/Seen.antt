-- What the code has for a class of operators and for two values, as the definitions have it.
use Rattle.std.specs.Prelude.{ℕ, zero, suc, ℤ, Option, Some, None}
use Rattle.jr_base.specs.declared.constant.Const.{Const}
use Rattle.jr_base.specs.declared.constant.Const.TheVariants as c
use Rattle.jr_defs.specs.Typing as typing
use Rattle.jr_types.specs.declared.operators.OperatorClass.{OperatorClass}
use Rattle.jr_types.specs.declared.operators.OperatorClass.TheVariants as class

abbrev pub class_seen : OperatorClass → typing.OperatorClass
class_seen class.Plus = typing.plus
class_seen class.Arithmetic = typing.arithmetic
class_seen class.Shift = typing.shift
class_seen class.Comparison = typing.comparison
class_seen class.Equality = typing.equality
class_seen class.Bitwise = typing.bitwise
class_seen class.Logical = typing.logical
class_seen class.Other = typing.other

abbrev pub int_if : Option ℤ → Option Const
int_if (Some z) = Some (c.Int z)
int_if None = None

-- the values of two operands, at the numbers 0 and 1
abbrev pub operands : Option ℤ → Option ℤ → ℕ → Option Const
operands first second zero = int_if first
operands first second (suc n) = int_if second
