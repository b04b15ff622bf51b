-- Values of constant expressions as those of the definitions.
use Rattle.std.specs.Prelude.{ℕ, Bool, true, false, not, ◌||◌, List, [], ◌∷◌, ◌++◌, Option, Some, None, slice_get, bytes_eq}
use Rattle.jr_base.specs.declared.kind.Symbol.{Symbol}
use Rattle.jr_base.specs.declared.kind.Symbol.TheVariants as y
use Rattle.jr_base.specs.declared.constant.Const.{Const}
use Rattle.jr_base.specs.declared.constant.Const.TheVariants as c
use Rattle.jr_defs.specs.Operators.{text_of}
use Rattle.jr_constants.specs.declared.value.Value.{Value}
use Rattle.jr_constants.specs.declared.value.Value.TheVariants as v

-- the value, where a string is its number alone
abbrev pub seen : Value → Const
seen (v.Bool b) = c.Bool b
seen (v.Byte z) = c.Byte z
seen (v.Short z) = c.Short z
seen (v.Char n) = c.Char n
seen (v.Int z) = c.Int z
seen (v.Long z) = c.Long z
seen (v.Str text) = c.Str (text ∷ [])

abbrev pub seen_if : Option Value → Option Const
seen_if None = None
seen_if (Some value) = Some (seen value)

-- the units of a text
abbrev pub text_at : Option (List ℕ) → List ℕ
text_at (Some units) = units
text_at None = []

-- the value, where a string is the text with its number
abbrev pub value_in : List (List ℕ) → Value → Const
value_in texts (v.Bool b) = c.Bool b
value_in texts (v.Byte z) = c.Byte z
value_in texts (v.Short z) = c.Short z
value_in texts (v.Char n) = c.Char n
value_in texts (v.Int z) = c.Int z
value_in texts (v.Long z) = c.Long z
value_in texts (v.Str text) = c.Str (text_at (slice_get texts text))

abbrev pub value_in_if : List (List ℕ) → Option Value → Option Const
value_in_if texts None = None
value_in_if texts (Some value) = Some (value_in texts value)

abbrev pub is_text : Value → Bool
is_text (v.Str text) = true
is_text _ = false

-- one of the two is a string
abbrev pub has_text : Value → Value → Bool
has_text left right = is_text left || is_text right

-- whether two texts are equal, where both are texts
abbrev pub equal_texts : Const → Const → Option Bool
equal_texts (c.Str a) (c.Str b) = Some (bytes_eq a b)
equal_texts _ _ = None

abbrev pub as_test : Bool → Option Bool → Option Const
as_test wanted None = None
as_test true (Some b) = Some (c.Bool b)
as_test false (Some b) = Some (c.Bool (not b))

abbrev pub compared : Bool → Const → Const → Option Const
compared wanted a b = as_test wanted (equal_texts a b)

-- an operator on two constants of which one at least is a text (JLS 15.18.1, 15.21.3)
abbrev pub texts_value : Symbol → Const → Const → Option Const
texts_value y.Plus a b = Some (c.Str (text_of a ++ text_of b))
texts_value y.Equal a b = compared true a b
texts_value y.NotEqual a b = compared false a b
texts_value op a b = None
