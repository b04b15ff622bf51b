use Rattle.std.proofs.Common.{arith}
use Rattle.jr_lex.proofs.Digits.{digits_grow}
use Rattle.jr_escapes.proofs.units.value_of.Goals as goal

pub overflow_mul-value : goal.overflow_mul-value
overflow_mul-value c = omega (arith, digits_grow 16 c.args.digits.now c.loop-digit.digit-index (omega arith) c.loop-digit-test.true)

pub overflow_add-value : goal.overflow_add-value
overflow_add-value c = omega (arith, digits_grow 16 c.args.digits.now c.loop-digit.digit-index (omega arith) c.loop-digit-test.true)
