-- Strings: their units, string conversion and `+` (JLS 3.10.5, 5.1.11, 15.18.1).
use Rattle.std.specs.Prelude.{ℕ, ◌%◌, ◌^◌, Bool, true, false, List, [], ◌∷◌, ◌++◌, length, Option, Some, None, slice_get, codes, ℤ, pos}
use Rattle.std.specs.Option.{option_and_then}
use Rattle.std.specs.Fmt.{signed_decimal}
use Rattle.std.specs.Int.{w32, cast_signed}
use Rattle.jr_machine_defs.specs.declared.value.Value.{Value}
use Rattle.jr_machine_defs.specs.declared.value.Value.TheVariants as v
use Rattle.jr_machine_defs.specs.declared.heap.Cell.{Cell}
use Rattle.jr_machine_defs.specs.declared.heap.Cell.TheVariants as cell
use Rattle.jr_machine_defs.specs.declared.outcome.Outcome.{Outcome}
use Rattle.jr_machine_defs.specs.declared.outcome.Outcome.TheVariants as o

abbrev pub cell_units : Cell → Option (List ℕ)
cell_units (cell.Text units) = Some units
cell_units (cell.Object class outer fields) = None
cell_units (cell.Array item items) = None

-- the units of a value that is a string
abbrev pub units_of : List Cell → Value → Option (List ℕ)
units_of heap (v.Text units) = Some units
units_of heap (v.Ref at) = option_and_then cell_units (slice_get heap at)
units_of heap value = None

-- the units of a string, or `null`
abbrev pub shown : List Cell → Value → Option (List ℕ)
shown heap v.Null = Some (codes "null")
shown heap value = units_of heap value

-- two strings put together (JLS 15.18.1.2)
abbrev pub joined : Option (List ℕ) → Option (List ℕ) → Outcome
joined (Some a) (Some b) = o.Makes (a ++ b)
joined (Some a) None = o.Unfit
joined None b = o.Unfit

abbrev pub bool_text : Bool → List ℕ
bool_text true = codes "true"
bool_text false = codes "false"

-- the string that a value without a `toString` of its own is shown as: null and strings stay (JLS 5.1.11)
abbrev pub text_of : Value → Option (List ℕ)
text_of (v.Bool value) = Some (bool_text value)
text_of (v.Char unit) = Some (unit ∷ [])
text_of (v.Byte value) = Some (signed_decimal value)
text_of (v.Short value) = Some (signed_decimal value)
text_of (v.Int value) = Some (signed_decimal value)
text_of (v.Long value) = Some (signed_decimal value)
text_of value = None

-- a count as an `int`
abbrev pub int_of_count : ℕ → ℤ
int_of_count n = cast_signed w32 (n % 2 ^ 32)
