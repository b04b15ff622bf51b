-- Texts put together from gaps and spellings, and what may stand behind each of these (JLS 3.2, 3.5).
use Rattle.std.specs.Prelude.{◌≡◌, ℕ, ◌+◌, ◌<◌, ◌≤◌, Bool, true, false, not, ◌||◌, ◌&&◌, ◌==◌, nat_le, List, [], ◌∷◌, ◌++◌, length, slice_index, All}
use Rattle.std.specs.Char.{is_ascii_alphanumeric}
use Rattle.std.specs.Str.{IsUtf8}
use Rattle.jr_base.specs.Gaps.{is_blank, is_line_end, opens_line_comment, IsGap}
use Rattle.jr_base.specs.Identifiers.{is_word_char, IsIdentifier}
use Rattle.jr_base.specs.Literals.{is_quote}
use Rattle.jr_base.specs.Places.{CharAt}
use Rattle.jr_base.specs.Reading.{Lex}
use Rattle.jr_base.specs.Tokens.{Spells, IsLongest, EndsInteger, StartsSymbol, opens_fraction}
use Rattle.jr_base.specs.declared.kind.Kind.{Kind}
use Rattle.jr_base.specs.declared.kind.Kind.TheVariants.{Word, Ident, Int, IntMin, Long, LongMin, Char, Str, Sym}
use Rattle.jr_base.specs.declared.kind.Symbol.{Symbol}
use Rattle.jr_base.specs.declared.token.Token.{Token}
use Rattle.jr_lex.specs.Items.{HasSymbol}

-- no character goes on the word before the text
abbrev pub EndsWord : List ℕ → Type 0
EndsWord rest = (c : ℕ) → CharAt rest 0 c → is_word_char c ≡ false

-- the text behind the symbol makes no longer symbol of it, no comment and no fraction
pub record EndsSymbol (word rest : List ℕ) : Type 0 where
  pub starts : StartsSymbol (word ++ rest)
  pub longest : (len : ℕ) (other : Symbol) → HasSymbol (word ++ rest) len other → len ≤ length word

-- the text may stand behind a token of the kind that is spelled so
abbrev pub Follows : Kind → List ℕ → List ℕ → Type 0
Follows (Word keyword) word rest = EndsWord rest
Follows (Ident name) word rest = EndsWord rest
Follows (Int value) word rest = EndsInteger rest
Follows IntMin word rest = EndsInteger rest
Follows (Long value) word rest = EndsInteger rest
Follows LongMin word rest = EndsInteger rest
Follows (Char unit) word rest = Unit {0}
Follows (Str units) word rest = Unit {0}
Follows (Sym symbol) word rest = EndsSymbol word rest

-- the text may stand behind the gap: behind a line comment only at a line's end
abbrev pub FollowsGap : List ℕ → List ℕ → Type 0
FollowsGap gap rest = opens_line_comment gap ≡ true → 0 < length rest → is_line_end (slice_index rest 0) ≡ true

-- one blank or comment, or a token with its spelling
pub data Chunk : Type 0 where
  space : List ℕ → Chunk
  spelled : Kind → List ℕ → Chunk

abbrev pub chunk_text : Chunk → List ℕ
chunk_text (space gap) = gap
chunk_text (spelled kind word) = word

abbrev pub text_of : List Chunk → List ℕ
text_of [] = []
text_of (c ∷ cs) = chunk_text c ++ text_of cs

-- the tokens of that text, where it begins at the place
abbrev pub tokens_of : ℕ → List Chunk → List Token
tokens_of at [] = []
tokens_of at (space gap ∷ cs) = tokens_of (at + length gap) cs
tokens_of at (spelled kind word ∷ cs) = record { kind = kind; span = record { start = at; end = at + length word } } ∷ tokens_of (at + length word) cs

-- the chunk is what it says, and the text may stand behind it
abbrev pub Stands : Chunk → List ℕ → Type 0
Stands (space gap) rest = IsGap gap (length gap) × FollowsGap gap rest
Stands (spelled kind word) rest = Spells kind word × Follows kind word rest

-- so for each chunk and the text of those behind it
abbrev pub AllStand : List Chunk → Type 0
AllStand [] = Unit {0}
AllStand (c ∷ cs) = Stands c (text_of cs) × AllStand cs

-- the law: a text put together so has just those tokens
abbrev pub TextReads : Type 0
TextReads = (chunks : List Chunk) → IsUtf8 (text_of chunks) → AllStand chunks → Lex (text_of chunks) (tokens_of 0 chunks)

-- a spelling is the longest token of its kind exactly before a text that may stand behind it
abbrev pub FollowsExactly : Type 0
FollowsExactly = (kind : Kind) (word rest : List ℕ) → Spells kind word
    → (Follows kind word rest → IsLongest (word ++ rest) (length word) kind) × (IsLongest (word ++ rest) (length word) kind → Follows kind word rest)

-- a gap stays one exactly before a text that may stand behind it
abbrev pub GapFollowsExactly : Type 0
GapFollowsExactly = (gap rest : List ℕ) → IsGap gap (length gap)
    → (FollowsGap gap rest → IsGap (gap ++ rest) (length gap)) × (IsGap (gap ++ rest) (length gap) → FollowsGap gap rest)

-- simple cases, by the first byte of what follows

-- an ASCII letter or digit, `_`, `$`, or a byte of a character beyond ASCII
abbrev pub goes_on : ℕ → Bool
goes_on b = nat_le 128 b || (is_ascii_alphanumeric b || ((b == 95) || (b == 36)))

-- the text is empty or begins with white space, a quote or another sign
abbrev pub breaks_word : List ℕ → Bool
breaks_word [] = true
breaks_word (b ∷ rest) = not (goes_on b)

-- the text is empty or begins with white space, a quote, a word or a digit
abbrev pub breaks_symbol : List ℕ → Bool
breaks_symbol [] = true
breaks_symbol (b ∷ rest) = goes_on b || (is_blank b || is_quote b)

-- the first byte shows that the text may stand behind the token
abbrev pub simply_follows : Kind → List ℕ → List ℕ → Bool
simply_follows (Word keyword) word rest = breaks_word rest
simply_follows (Ident name) word rest = breaks_word rest
simply_follows (Int value) word rest = breaks_word rest && not (slice_index rest 0 == 46)
simply_follows IntMin word rest = breaks_word rest && not (slice_index rest 0 == 46)
simply_follows (Long value) word rest = breaks_word rest && not (slice_index rest 0 == 46)
simply_follows LongMin word rest = breaks_word rest && not (slice_index rest 0 == 46)
simply_follows (Char unit) word rest = true
simply_follows (Str units) word rest = true
simply_follows (Sym symbol) word rest = breaks_symbol rest && not (opens_fraction (word ++ rest))

abbrev pub SimplyFollows : Type 0
SimplyFollows = (kind : Kind) (word rest : List ℕ) → Spells kind word → simply_follows kind word rest ≡ true → Follows kind word rest

-- the token is no name, or one of an identifier
abbrev pub IsNamed : Token → Type 0
IsNamed t = (name : List ℕ) → t.kind ≡ Ident name → IsIdentifier name

abbrev pub NamesAreIdentifiers : Type 0
NamesAreIdentifiers = (bytes : List ℕ) (tokens : List Token) → Lex bytes tokens → All IsNamed tokens
