-- Character and string literals with their escapes (JLS 3.3, 3.10.4, 3.10.5, 3.10.6).
use Rattle.std.specs.Prelude.{◌≡◌, ℕ, ◌+◌, ◌∷◌, [], ◌++◌, Bool, true, not, ◌||◌, ◌&&◌, ◌==◌, nat_le, List, length, drop, take, slice_index, Option, Some, None, option_map, if◌then◌else◌}
use Rattle.std.specs.Char.{is_digit, len_utf8}
use Rattle.std.specs.Char.Escape.{encode_utf16}
use Rattle.std.specs.List.{list_all, prefix_len}
use Rattle.std.specs.Str.Parse.{digits_value}
use Rattle.jr_base.specs.Places.{CharAt}

-- `'` or `"`
abbrev pub is_quote : ℕ → Bool
is_quote c = (c == 39) || (c == 34)

-- the unit that stands for the letter or sign behind a backslash: b t n f r " ' \
abbrev pub simple_escape : ℕ → Option ℕ
simple_escape c =
    if c == 98 then Some 8 else (if c == 116 then Some 9 else (if c == 110 then Some 10
    else (if c == 102 then Some 12 else (if c == 114 then Some 13
    else (if is_quote c || (c == 92) then Some c else None)))))

-- how many of up to three octal digits make the escape: as many as stand there, and three only behind 0 to 3
abbrev pub octal_count : List ℕ → ℕ
octal_count digits =
    if is_digit (slice_index digits 1) 8
    then (if nat_le (slice_index digits 0) 51 && is_digit (slice_index digits 2) 8 then 3 else 2)
    else 1

-- a quote, a backslash or a line's end, for which no `\u` escape stands
abbrev pub is_reserved : ℕ → Bool
is_reserved unit = (is_quote unit || (unit == 92)) || ((unit == 10) || (unit == 13))

-- the unit of four hexadecimal digits
abbrev pub hex_unit : List ℕ → Option ℕ
hex_unit digits =
    if ((length digits == 4) && list_all (λ c. is_digit c 16) digits) && not (is_reserved (digits_value 16 digits))
    then Some (digits_value 16 digits) else None

-- how many `u` the text begins with
abbrev pub mark_count : List ℕ → ℕ
mark_count text = prefix_len (λ c. c == 117) text

-- the unit of what stands behind a backslash, and how long that is
abbrev pub escaped : List ℕ → Option (ℕ × ℕ)
escaped text =
    if slice_index text 0 == 117
    then option_map (λ unit. (unit, mark_count text + 4)) (hex_unit (take 4 (drop (mark_count text) text)))
    else (if is_digit (slice_index text 0) 8
    then Some (digits_value 8 (take (octal_count text) text), octal_count text)
    else option_map (λ unit. (unit, 1)) (simple_escape (slice_index text 0)))

-- the unit of the escape that the text begins with, and its length behind the backslash
unfoldable pub escape_of : List ℕ → Option (ℕ × ℕ)
escape_of text = if slice_index text 0 == 92 then escaped (drop 1 text) else None

-- the character stands for itself between such quotes
abbrev pub is_plain : ℕ → ℕ → Bool
is_plain quote c = not (((c == quote) || (c == 92)) || ((c == 10) || (c == 13)))

-- from start up to end the text is characters and escapes, which stand for these 16-bit units
pub data Characters (quote : ℕ) (text : List ℕ) : ℕ → ℕ → List ℕ → Type 0 where
  none : {start : ℕ} → Characters quote text start start []
  plain : {start c end : ℕ} {units : List ℕ} → CharAt text start c → is_plain quote c ≡ true → Characters quote text (start + len_utf8 c) end units → Characters quote text start end (encode_utf16 c ++ units)
  escape : {start unit len end : ℕ} {units : List ℕ} → escape_of (drop start text) ≡ Some (unit, len) → Characters quote text (start + 1 + len) end units → Characters quote text start end (unit ∷ units)

-- the whole word is characters and escapes between two quotes
pub record IsLiteral (quote : ℕ) (word units : List ℕ) : Type 0 where
  pub opens : slice_index word 0 ≡ quote
  pub close : ℕ
  pub body : Characters quote word 1 close units
  pub closes : slice_index word close ≡ quote
  pub ends : length word ≡ close + 1
