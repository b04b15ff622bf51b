use Rattle.std.proofs.Common.{sym, ◌∙◌, inl}
use Rattle.jr_lex.proofs.numerals.numeral_value.Goals as goal

pub returns-then-not-are_digits : goal.returns-then-not-are_digits
returns-then-not-are_digits c =
    inl (rw (c.digits_of-digits.ensures, c.radix_of-radix.ensures) at (sym c.are_digits.ensures ∙ c.if-not-are_digits.true))
