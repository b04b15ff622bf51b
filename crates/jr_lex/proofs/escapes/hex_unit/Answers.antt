use Rattle.std.proofs.Common.{sym, ◌∙◌}
use Rattle.jr_lex.proofs.Digits.{hex_small}
use Rattle.jr_lex.proofs.escapes.hex_unit.Goals as goal

pub small_value-unit-requires-clause-small : goal.small_value-unit-requires-clause-small
small_value-unit-requires-clause-small c =
    hex_small c.args.digits.now c.if-digits-ne4.false (sym c.all_digits.ensures ∙ c.if-not-all_digits.false)
