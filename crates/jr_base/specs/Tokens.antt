-- Which spellings are tokens, and where they stand (JLS 3.2, 3.5).
use Rattle.std.specs.Prelude.{◌≡◌, ◌≢◌, ℕ, ◌+◌, ◌≤◌, Bool, true, false, ◌||◌, ◌&&◌, ◌==◌, List, [], ◌∷◌, length, drop, take, slice_index, Some}
use Rattle.std.specs.Char.{is_ascii_digit}
use Rattle.jr_base.specs.Gaps.{opens_line_comment, opens_block_comment, IsGap}
use Rattle.jr_base.specs.Identifiers.{IsIdentifier, is_word_char}
use Rattle.jr_base.specs.Literals.{IsLiteral}
use Rattle.jr_base.specs.Numerals.{integer_of}
use Rattle.jr_base.specs.Places.{CharAt}
use Rattle.jr_base.specs.Spellings.{keyword_text, symbol_text}
use Rattle.jr_base.specs.declared.kind.Kind.{Kind}
use Rattle.jr_base.specs.declared.kind.Kind.TheVariants.{Word, Ident, Int, IntMin, Long, LongMin, Char, Str, Sym}

-- the word, by itself, is a spelling of the kind
abbrev pub Spells : Kind → List ℕ → Type 0
Spells (Word keyword) word = word ≡ keyword_text keyword
Spells (Ident name) word = (word ≡ name) × IsIdentifier word
Spells (Int value) word = integer_of word ≡ Some (Int value)
Spells IntMin word = integer_of word ≡ Some IntMin
Spells (Long value) word = integer_of word ≡ Some (Long value)
Spells LongMin word = integer_of word ≡ Some LongMin
Spells (Char unit) word = IsLiteral 39 word (unit ∷ [])
Spells (Str units) word = IsLiteral 34 word units
Spells (Sym symbol) word = word ≡ symbol_text symbol

-- what follows an integer goes on no identifier, and is no point
pub record EndsInteger (rest : List ℕ) : Type 0 where
  pub whole : (c : ℕ) → CharAt rest 0 c → is_word_char c ≡ false
  pub no_point : slice_index rest 0 ≢ 46

-- the text begins with a point and a digit
abbrev pub opens_fraction : List ℕ → Bool
opens_fraction text = (slice_index text 0 == 46) && is_ascii_digit (slice_index text 1)

-- where a symbol stands begins no comment, and no point before a digit
pub record StartsSymbol (text : List ℕ) : Type 0 where
  pub no_line : opens_line_comment text ≡ false
  pub no_block : opens_block_comment text ≡ false
  pub no_fraction : opens_fraction text ≡ false

-- what stands around lets the first len bytes of the text be a token of the kind
abbrev pub IsApart : Kind → List ℕ → ℕ → Type 0
IsApart (Word keyword) text len = Unit {0}
IsApart (Ident name) text len = Unit {0}
IsApart (Int value) text len = EndsInteger (drop len text)
IsApart IntMin text len = EndsInteger (drop len text)
IsApart (Long value) text len = EndsInteger (drop len text)
IsApart LongMin text len = EndsInteger (drop len text)
IsApart (Char unit) text len = Unit {0}
IsApart (Str units) text len = Unit {0}
IsApart (Sym symbol) text len = StartsSymbol text

-- the first len bytes of the text are a token of the kind
pub record IsToken (text : List ℕ) (len : ℕ) (kind : Kind) : Type 0 where
  pub inside : len ≤ length text
  pub spells : Spells kind (take len text)
  pub apart : IsApart kind text len

-- and no more of them are a token of any kind
pub record IsLongest (text : List ℕ) (len : ℕ) (kind : Kind) : Type 0 where
  pub stands : IsToken text len kind
  pub longest : (other : ℕ) (k : Kind) → IsToken text other k → other ≤ len

-- the text begins with no gap and no token
pub record NothingStarts (text : List ℕ) : Type 0 where
  pub no_gap : (len : ℕ) → IsGap text len → ⊥
  pub no_token : (len : ℕ) (kind : Kind) → IsToken text len kind → ⊥

-- a gap, a token, or the longest token stands in the bytes from start up to end
abbrev pub GapAt : List ℕ → ℕ → ℕ → Type 0
GapAt bytes start end = (len : ℕ) × (end ≡ start + len) × IsGap (drop start bytes) len

abbrev pub TokenAt : List ℕ → ℕ → ℕ → Kind → Type 0
TokenAt bytes start end kind = (len : ℕ) × (end ≡ start + len) × IsToken (drop start bytes) len kind

abbrev pub LongestAt : List ℕ → ℕ → ℕ → Kind → Type 0
LongestAt bytes start end kind = (len : ℕ) × (end ≡ start + len) × IsLongest (drop start bytes) len kind
