-- Integer literals (JLS 3.10.1).
use Rattle.std.specs.Prelude.{ℕ, ◌+◌, ◌-◌, ◌^◌, Bool, ◌||◌, ◌&&◌, ◌==◌, nat_lt, not, List, length, drop, take, slice_index, Option, Some, None, pos, if◌then◌else◌}
use Rattle.std.specs.Char.{is_digit}
use Rattle.std.specs.List.{list_all}
use Rattle.std.specs.Int.{cast_signed, w32, w64}
use Rattle.std.specs.Str.Parse.{digits_value}
use Rattle.jr_base.specs.declared.kind.Kind.{Kind}
use Rattle.jr_base.specs.declared.kind.Kind.TheVariants.{Int, IntMin, Long, LongMin}

-- `x` or `X`
abbrev pub is_hex_mark : ℕ → Bool
is_hex_mark c = (c == 120) || (c == 88)

-- `l` or `L`
abbrev pub is_long_mark : ℕ → Bool
is_long_mark c = (c == 108) || (c == 76)

-- the base of a numeral: 16 behind `0x`, 8 where more stands behind a leading 0, and else 10
abbrev pub radix_of : List ℕ → ℕ
radix_of numeral =
    if (slice_index numeral 0 == 48) && nat_lt 1 (length numeral)
    then (if is_hex_mark (slice_index numeral 1) then 16 else 8)
    else 10

-- its digits, with the leading 0 of an octal one
abbrev pub digits_of : List ℕ → List ℕ
digits_of numeral = if radix_of numeral == 16 then drop 2 numeral else numeral

-- there are digits, and each is one of the base
abbrev pub is_numeral : List ℕ → Bool
is_numeral numeral = nat_lt 0 (length (digits_of numeral)) && list_all (λ c. is_digit c (radix_of numeral)) (digits_of numeral)

abbrev pub numeral_value : List ℕ → ℕ
numeral_value numeral = digits_value (radix_of numeral) (digits_of numeral)

-- the int of a base and a value: in base 10 up to 2 ^ 31, and else the 32 bits in two's complement
abbrev pub int_of : ℕ → ℕ → Option Kind
int_of radix value =
    if radix == 10
    then (if nat_lt value (2 ^ 31) then Some (Int (pos value)) else (if value == 2 ^ 31 then Some IntMin else None))
    else (if nat_lt value (2 ^ 32) then Some (Int (cast_signed w32 value)) else None)

-- the long of a base and a value: in base 10 up to 2 ^ 63, and else the 64 bits in two's complement
abbrev pub long_of : ℕ → ℕ → Option Kind
long_of radix value =
    if radix == 10
    then (if nat_lt value (2 ^ 63) then Some (Long (pos value)) else (if value == 2 ^ 63 then Some LongMin else None))
    else (if nat_lt value (2 ^ 64) then Some (Long (cast_signed w64 value)) else None)

-- the word ends in `l` or `L`
abbrev pub has_long_mark : List ℕ → Bool
has_long_mark word = is_long_mark (slice_index word (length word - 1))

-- the word without that mark
abbrev pub numeral_in : List ℕ → List ℕ
numeral_in word = if has_long_mark word then take (length word - 1) word else word

-- the integer literal that the whole word is
unfoldable pub integer_of : List ℕ → Option Kind
integer_of word =
    let numeral = numeral_in word in
    if is_numeral numeral
    then (if has_long_mark word then long_of (radix_of numeral) (numeral_value numeral)
    else int_of (radix_of numeral) (numeral_value numeral))
    else None
