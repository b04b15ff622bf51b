-- How bytes read as gaps and tokens in turn (JLS 3.2), and where and why they do not.
use Rattle.std.specs.Prelude.{◌≡◌, ℕ, ◌+◌, ◌<◌, ◌≤◌, Bool, true, false, ◌||◌, List, [], ◌∷◌, length, drop, slice_index, None}
use Rattle.std.specs.Char.{is_ascii_digit}
use Rattle.std.specs.Str.{IsUtf8}
use Rattle.jr_base.specs.Gaps.{opens_block_comment, closes_comment}
use Rattle.jr_base.specs.Literals.{Characters, is_quote, escape_of}
use Rattle.jr_base.specs.Tokens.{GapAt, LongestAt, NothingStarts, opens_fraction}
use Rattle.jr_base.specs.declared.token.Token.{Token}

-- from start up to stop the bytes are gaps and these tokens in turn
pub data Reads (bytes : List ℕ) : ℕ → List Token → ℕ → Type 0 where
  here : {start : ℕ} → Reads bytes start [] start
  gap : {start end stop : ℕ} {ts : List Token} → GapAt bytes start end → Reads bytes end ts stop → Reads bytes start ts stop
  token : {start stop : ℕ} {t : Token} {ts : List Token} → t.span.start ≡ start → LongestAt bytes start t.span.end t.kind → Reads bytes t.span.end ts stop → Reads bytes start (t ∷ ts) stop

-- the bytes are UTF-8, and all of them read as these tokens
pub record Lex (bytes : List ℕ) (tokens : List Token) : Type 0 where
  pub utf8 : IsUtf8 bytes
  pub reads : Reads bytes 0 tokens (length bytes)

-- up to the place the bytes read as some tokens, and there no gap and no token starts
pub record StopsAt (bytes : List ℕ) (place : ℕ) : Type 0 where
  pub utf8 : IsUtf8 bytes
  pub before : List Token
  pub reads : Reads bytes 0 before place
  pub inside : place < length bytes
  pub nothing : NothingStarts (drop place bytes)

-- the shapes of a text that begins with no gap and no token; each such text has one

-- `/*` with no `*/` behind it
pub record HasOpenComment (text : List ℕ) : Type 0 where
  pub opens : opens_block_comment text ≡ true
  pub never : (k : ℕ) → 2 ≤ k → closes_comment text k ≡ false

-- a quote where, read from the left, a backslash starts no escape before the literal closes or the line or the text ends
pub record HasBadEscape (text : List ℕ) : Type 0 where
  pub opens : is_quote (slice_index text 0) ≡ true
  pub place : ℕ
  pub units : List ℕ
  pub body : Characters (slice_index text 0) text 1 place units
  pub backslash : slice_index text place ≡ 92
  pub none : escape_of (drop place text) ≡ None

-- any other quote
pub record HasOpenLiteral (text : List ℕ) : Type 0 where
  pub opens : is_quote (slice_index text 0) ≡ true
  pub escapes : HasBadEscape text → ⊥

-- a digit, or a point before a digit
abbrev pub starts_number : List ℕ → Bool
starts_number text = is_ascii_digit (slice_index text 0) || opens_fraction text

abbrev pub HasBadNumber : List ℕ → Type 0
HasBadNumber text = starts_number text ≡ true

-- anything else
pub record HasBadByte (text : List ℕ) : Type 0 where
  pub no_comment : opens_block_comment text ≡ false
  pub no_quote : is_quote (slice_index text 0) ≡ false
  pub no_number : starts_number text ≡ false
