-- The text of a run: what was printed, and how the run ended.
use Rattle.std.specs.Prelude.{ℕ, ◌-◌, Bool, true, List, [], ◌∷◌, ◌++◌, length, nat_eq, slice_get, if◌then◌else◌}
use Rattle.std.specs.Char.Utf16.{utf16_lossy_chars}
use Rattle.std.specs.Option.{option_map_or}
use Rattle.std.specs.Str.{encode_utf8_all}

-- 16-bit units as UTF-8: a pair of surrogates is one character, and a surrogate without a partner is U+FFFD (JLS 3.1)
abbrev pub utf8_text : List ℕ → List ℕ
utf8_text units = encode_utf8_all (utf16_lossy_chars units)

-- the text is empty, or its last byte is LF
abbrev pub ends_line : List ℕ → Bool
ends_line text = option_map_or (λ byte. nat_eq byte 10) (slice_get text (length text - 1)) true

-- the text, with LF at its end where it has none and is not empty
abbrev pub lines : List ℕ → List ℕ
lines text = if ends_line text then text else text ++ 10 ∷ []
