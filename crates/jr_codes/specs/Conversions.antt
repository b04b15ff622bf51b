-- Conversions of values (JLS 5.1.2, 5.1.3, 5.2, 5.5, 5.6, 15.18.1.1).
use Rattle.std.specs.Prelude.{◌≡◌, ℕ, ◌∷◌, Bool, true, false, not, ◌&&◌, if◌then◌else◌, Option, Some, None, option_map}
use Rattle.jr_base.specs.declared.constant.Const.{Const}
use Rattle.jr_core.specs.declared.code.Code.{Code}
use Rattle.jr_core.specs.declared.code.Code.TheVariants as c
use Rattle.jr_defs.specs.declared.referent.Element.{Element}
use Rattle.jr_defs.specs.declared.referent.Element.TheVariants as element
use Rattle.jr_defs.specs.declared.referent.RowType.{RowType}
use Rattle.jr_defs.specs.Operators.{cast_to}
use Rattle.jr_defs.specs.Types.{plain}
use Rattle.jr_plain.specs.Conversions.{is_plain, is_primitive}
use Rattle.jr_plain.specs.Typing.{is_string_type}
use Rattle.jr_codes.specs.Facts.{Facts, type_in}
use Rattle.jr_codes.specs.Making.{Below}

abbrev pub is_one_primitive : Element → Element → Bool
is_one_primitive element.Boolean element.Boolean = true
is_one_primitive element.Byte element.Byte = true
is_one_primitive element.Short element.Short = true
is_one_primitive element.Char element.Char = true
is_one_primitive element.Int element.Int = true
is_one_primitive element.Long element.Long = true
is_one_primitive _ _ = false

-- a conversion from one primitive type to another one; other conversions that are implicit are no code
abbrev pub is_written : RowType → RowType → Bool
is_written from to = is_plain is_primitive from && (is_plain is_primitive to && not (is_one_primitive from.element to.element))

-- the constant after a cast to the type
abbrev pub folded : Option Const → Element → Option Const
folded None e = None
folded (Some v) e = cast_to e v

-- a conversion that is written, and that of a constant, which is made
abbrev pub cast_or : Option Const → Facts → RowType → Code → Code
cast_or (Some v) f to given = c.Lit (Some v)
cast_or None f to given = c.Cast (type_in f to) given

-- the code of a row, as that of a value of the type, where the row has this type
abbrev pub converted_from : RowType → Facts → ℕ → RowType → Code → Code
converted_from from f n to given = if is_written from to then cast_or (folded (f.value n) to.element) f to given else given

abbrev pub converted : Facts → ℕ → RowType → Code → Option Code
converted f n to given = option_map (λ from. converted_from from f n to given) (f.typed n)

-- the type of an index and of a length (JLS 15.10, 15.13)
abbrev pub int : RowType
int = plain element.Int

-- the type of the row is String
abbrev pub is_text : Facts → ℕ → Option Bool
is_text f n = option_map (is_string_type f.rows) (f.typed n)

-- the code of an operand, as a string where it is joined to one (JLS 15.18.1.1)
abbrev pub shown_if : Bool → Bool → Code → Code
shown_if is_joined is_string given = if is_joined && not is_string then c.Show given else given

abbrev pub shown : Facts → ℕ → Bool → Code → Option Code
shown f n is_joined given = option_map (λ is_string. shown_if is_joined is_string given) (is_text f n)

-- ---- what waits

-- the first part is that of this row, and with its conversion it is this code
pub record Converts (f : Facts) (n : ℕ) (to : RowType) (old new : Below) (made : Code) : Type 0 where
  pub given : Code
  pub was : old ≡ (n, given) ∷ new
  pub is : converted f n to given ≡ Some made

pub record Shows (f : Facts) (n : ℕ) (is_joined : Bool) (old new : Below) (made : Code) : Type 0 where
  pub given : Code
  pub was : old ≡ (n, given) ∷ new
  pub is : shown f n is_joined given ≡ Some made
