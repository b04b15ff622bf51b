-- Which symbols are operators, how tightly they bind, and which tokens are literals (JLS 3.10, 15.14 to 15.26).
use Rattle.std.specs.Prelude.{ℕ, Bool, true, false}
use Rattle.jr_base.specs.declared.kind.Kind.{Kind}
use Rattle.jr_base.specs.declared.kind.Kind.TheVariants as kind
use Rattle.jr_base.specs.declared.kind.Symbol.{Symbol}
use Rattle.jr_base.specs.declared.kind.Symbol.TheVariants as y
use Rattle.jr_base.specs.declared.kind.Keyword.{Keyword}
use Rattle.jr_base.specs.declared.kind.Keyword.TheVariants as k

-- from loose, which is 2, to tight, which is 11; 0 where the symbol is no binary operator
abbrev pub binary_level : Symbol → ℕ
binary_level y.OrOr = 2
binary_level y.AndAnd = 3
binary_level y.Or = 4
binary_level y.Caret = 5
binary_level y.And = 6
binary_level y.Equal = 7
binary_level y.NotEqual = 7
binary_level y.Less = 8
binary_level y.Greater = 8
binary_level y.LessEqual = 8
binary_level y.GreaterEqual = 8
binary_level y.ShiftLeft = 9
binary_level y.ShiftRight = 9
binary_level y.ShiftRightUnsigned = 9
binary_level y.Plus = 10
binary_level y.Minus = 10
binary_level y.Star = 11
binary_level y.Slash = 11
binary_level y.Percent = 11
binary_level _ = 0

abbrev pub is_assignment : Symbol → Bool
is_assignment y.Assign = true
is_assignment y.PlusAssign = true
is_assignment y.MinusAssign = true
is_assignment y.StarAssign = true
is_assignment y.SlashAssign = true
is_assignment y.AndAssign = true
is_assignment y.OrAssign = true
is_assignment y.CaretAssign = true
is_assignment y.PercentAssign = true
is_assignment y.ShiftLeftAssign = true
is_assignment y.ShiftRightAssign = true
is_assignment y.ShiftRightUnsignedAssign = true
is_assignment _ = false

abbrev pub is_unary : Symbol → Bool
is_unary y.Plus = true
is_unary y.Minus = true
is_unary y.Tilde = true
is_unary y.Not = true
is_unary _ = false

abbrev pub is_sign : Symbol → Bool
is_sign y.Plus = true
is_sign y.Minus = true
is_sign _ = false

abbrev pub is_minus : Symbol → Bool
is_minus y.Minus = true
is_minus _ = false

abbrev pub is_step : Symbol → Bool
is_step y.PlusPlus = true
is_step y.MinusMinus = true
is_step _ = false

abbrev pub is_literal_word : Keyword → Bool
is_literal_word k.True = true
is_literal_word k.False = true
is_literal_word k.Null = true
is_literal_word _ = false

abbrev pub is_literal : Kind → Bool
is_literal (kind.Word w) = is_literal_word w
is_literal (kind.Ident name) = false
is_literal (kind.Sym s) = false
is_literal _ = true

-- 2147483648 or 9223372036854775808L, which stand only directly under a minus
abbrev pub is_least_kind : Kind → Bool
is_least_kind kind.IntMin = true
is_least_kind kind.LongMin = true
is_least_kind _ = false
