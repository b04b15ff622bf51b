-- White space and comments (JLS 3.4, 3.6, 3.7). A place past the end of a text reads 0, which is in no class of bytes.
use Rattle.std.specs.Prelude.{◌≡◌, ℕ, ◌+◌, ◌<◌, ◌≤◌, Bool, true, false, ◌||◌, ◌&&◌, ◌==◌, ◌⊎◌, List, length, slice_index}

-- carriage return or line feed
abbrev pub is_line_end : ℕ → Bool
is_line_end b = (b == 10) || (b == 13)

-- space, tab, form feed, or a line's end
abbrev pub is_blank : ℕ → Bool
is_blank b = ((b == 32) || (b == 9)) || ((b == 12) || is_line_end b)

-- the text begins with `//`
abbrev pub opens_line_comment : List ℕ → Bool
opens_line_comment text = (slice_index text 0 == 47) && (slice_index text 1 == 47)

-- the text begins with `/*`
abbrev pub opens_block_comment : List ℕ → Bool
opens_block_comment text = (slice_index text 0 == 47) && (slice_index text 1 == 42)

-- `*/` stands at the place
abbrev pub closes_comment : List ℕ → ℕ → Bool
closes_comment text place = (slice_index text place == 42) && (slice_index text (place + 1) == 47)

pub record IsBlank (text : List ℕ) (len : ℕ) : Type 0 where
  pub blank : is_blank (slice_index text 0) ≡ true
  pub one : len ≡ 1

-- `//` and all that follows, up to the line's end or the text's
pub record IsLineComment (text : List ℕ) (len : ℕ) : Type 0 where
  pub opens : opens_line_comment text ≡ true
  pub some : 2 ≤ len
  pub inside : len ≤ length text
  pub free : (k : ℕ) → 2 ≤ k → k < len → is_line_end (slice_index text k) ≡ false
  pub ends : len < length text → is_line_end (slice_index text len) ≡ true

-- `/*` and all that follows, up to the first `*/` behind it
pub record IsBlockComment (text : List ℕ) (len : ℕ) : Type 0 where
  pub opens : opens_block_comment text ≡ true
  pub close : ℕ
  pub after : 2 ≤ close
  pub closes : closes_comment text close ≡ true
  pub first : (k : ℕ) → 2 ≤ k → k < close → closes_comment text k ≡ false
  pub ends : len ≡ close + 2

-- the first len bytes of the text are one blank or one comment
abbrev pub IsGap : List ℕ → ℕ → Type 0
IsGap text len = IsBlank text len ⊎ (IsLineComment text len ⊎ IsBlockComment text len)
