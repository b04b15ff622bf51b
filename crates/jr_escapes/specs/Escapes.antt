-- Unicode escapes in comments (JLS 3.3, 3.7): they are read before anything else, so one for an end of a line, `*`, `/` or a backslash may change what is a
-- comment. A place past the end of a text reads 0.
use Rattle.std.specs.Prelude.{◌≡◌, ℕ, zero, suc, ◌+◌, ◌<◌, nat_lt, nat_le, Bool, true, false, not, ◌||◌, ◌&&◌, ◌==◌, List, [], ◌∷◌, length, take, drop, slice_index, Option, Some, None, if◌then◌else◌}
use Rattle.std.specs.Char.{is_digit}
use Rattle.std.specs.List.{list_all}
use Rattle.std.specs.Str.Parse.{digits_value}
use Rattle.jr_base.specs.Gaps.{is_line_end}
use Rattle.jr_base.specs.Literals.{mark_count}
use Rattle.jr_base.specs.declared.token.Token.{Token}
use Rattle.jr_lex.specs.Laws.{Rising}

-- the tokens stand one behind another, and none is empty
abbrev pub AreRising : List Token → Type 0
AreRising tokens = (to : ℕ) × Rising 0 tokens to

-- the place is in no token, so it is in white space or in a comment (JLS 3.2, 3.5)
abbrev pub is_outside : List Token → ℕ → Bool
is_outside [] place = true
is_outside (t ∷ ts) place = (nat_lt place t.span.start || nat_le t.span.end place) && is_outside ts place

-- directly before the place stands an even number of backslashes (JLS 3.3)
abbrev pub is_even_before : List ℕ → ℕ → Bool
is_even_before bytes zero = true
is_even_before bytes (suc k) = not (slice_index bytes k == 92) || not (is_even_before bytes k)

-- the unit of four hexadecimal digits
abbrev pub unit_of : List ℕ → Option ℕ
unit_of digits = if (length digits == 4) && list_all (λ c. is_digit c 16) digits then Some (digits_value 16 digits) else None

-- an end of a line, `*`, `/` or a backslash
abbrev pub is_delimiter : ℕ → Bool
is_delimiter unit = is_line_end unit || ((unit == 42) || ((unit == 47) || (unit == 92)))

-- no unit, or one that may change what is a comment
abbrev pub is_refused : Option ℕ → Bool
is_refused None = true
is_refused (Some unit) = is_delimiter unit

-- the text behind a backslash is one `u` or more, and then no four digits, or those of such a unit
abbrev pub is_bad_escape : List ℕ → Bool
is_bad_escape text = (slice_index text 0 == 117) && is_refused (unit_of (take 4 (drop (mark_count text) text)))

-- at the place, in no token, a backslash begins such an escape: an even number of others stands before it
abbrev pub is_bad_escape_at : List ℕ → List Token → ℕ → Bool
is_bad_escape_at bytes tokens place =
    ((slice_index bytes place == 92) && is_even_before bytes place) && (is_outside tokens place && is_bad_escape (drop (place + 1) bytes))

-- the place is the first where a bad escape stands
pub record IsFirstBadEscape (bytes : List ℕ) (tokens : List Token) (place : ℕ) : Type 0 where
  pub here : is_bad_escape_at bytes tokens place ≡ true
  pub before : (k : ℕ) → k < place → is_bad_escape_at bytes tokens k ≡ false

-- there is none
abbrev pub HasNoBadEscape : List ℕ → List Token → Type 0
HasNoBadEscape bytes tokens = (place : ℕ) → is_bad_escape_at bytes tokens place ≡ false

-- the first of the tokens ends behind the place
abbrev pub IsAhead : List Token → ℕ → Type 0
IsAhead [] place = Unit {0}
IsAhead (t ∷ ts) place = place < t.span.end
