use Rattle.std.proofs.Common.{sym, ◌∙◌}
use Rattle.jr_lex.proofs.Digits.{hex_small}
use Rattle.jr_escapes.proofs.units.unit_of.Goals as goal

pub value_of-requires : goal.value_of-requires
value_of-requires c = hex_small c.args.digits.now c.if-digits-ne4.false (sym c.are_digits.ensures ∙ c.if-not-are_digits.false)
