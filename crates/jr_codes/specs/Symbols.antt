-- Operators of a core (JLS 15.14 to 15.26).
use Rattle.std.specs.Prelude.{Option, Some, None}
use Rattle.jr_base.specs.declared.kind.Symbol.{Symbol}
use Rattle.jr_base.specs.declared.kind.Symbol.TheVariants as y
use Rattle.jr_core.specs.declared.operators.BinaryOp.{BinaryOp}
use Rattle.jr_core.specs.declared.operators.BinaryOp.TheVariants as b
use Rattle.jr_core.specs.declared.operators.UnaryOp.{UnaryOp}
use Rattle.jr_core.specs.declared.operators.UnaryOp.TheVariants as u
use Rattle.jr_core.specs.declared.operators.StepOp.{StepOp}
use Rattle.jr_core.specs.declared.operators.StepOp.TheVariants as s

abbrev pub binary_op : Symbol → Option BinaryOp
binary_op y.Star = Some b.Multiply
binary_op y.Slash = Some b.Divide
binary_op y.Percent = Some b.Remainder
binary_op y.Plus = Some b.Add
binary_op y.Minus = Some b.Subtract
binary_op y.ShiftLeft = Some b.ShiftLeft
binary_op y.ShiftRight = Some b.ShiftRight
binary_op y.ShiftRightUnsigned = Some b.ShiftRightUnsigned
binary_op y.Less = Some b.Less
binary_op y.Greater = Some b.Greater
binary_op y.LessEqual = Some b.LessEqual
binary_op y.GreaterEqual = Some b.GreaterEqual
binary_op y.Equal = Some b.Equal
binary_op y.NotEqual = Some b.NotEqual
binary_op y.And = Some b.And
binary_op y.Caret = Some b.Xor
binary_op y.Or = Some b.Or
binary_op _ = None

abbrev pub unary_op : Symbol → Option UnaryOp
unary_op y.Plus = Some u.Plus
unary_op y.Minus = Some u.Minus
unary_op y.Tilde = Some u.Complement
unary_op y.Not = Some u.Not
unary_op _ = None

abbrev pub step_op : Symbol → Option StepOp
step_op y.PlusPlus = Some s.Increment
step_op y.MinusMinus = Some s.Decrement
step_op _ = None
