-- What one step of the lexer finds at the front of a text.
use Rattle.std.specs.Prelude.{◌≡◌, ◌≢◌, ◌⊎◌, ℕ, ◌+◌, ◌<◌, ◌≤◌, true, List, length, drop, take, slice_index, Some, None}
use Rattle.std.specs.Char.{len_utf8}
use Rattle.jr_base.specs.Gaps.{is_line_end, IsGap}
use Rattle.jr_base.specs.Literals.{Characters, is_plain, escape_of}
use Rattle.jr_base.specs.Places.{CharAt}
use Rattle.jr_base.specs.Spellings.{keyword_text, symbol_text}
use Rattle.jr_base.specs.Numerals.{integer_of}
use Rattle.jr_base.specs.Tokens.{IsLongest, NothingStarts, EndsInteger}
use Rattle.jr_base.specs.declared.kind.Keyword.{Keyword}
use Rattle.jr_base.specs.declared.kind.Kind.{Kind}
use Rattle.jr_base.specs.declared.kind.Kind.TheVariants.{Word, Ident}
use Rattle.jr_base.specs.declared.kind.Symbol.{Symbol}
use Rattle.jr_lex.specs.declared.fault.LexFault.{LexFault}
use Rattle.jr_lex.specs.declared.fault.LexFault.TheVariants.{OutOfMemory}
use Rattle.jr_lex.specs.Faults.{Tells}
use Rattle.jr_lex.specs.declared.items.Item.{Item}
use Rattle.jr_lex.specs.declared.items.Item.TheVariants.{Gap, Found}
use Rattle.jr_lex.specs.declared.literals.Piece.{Piece}
use Rattle.jr_lex.specs.declared.literals.Piece.TheVariants as piece
use Rattle.jr_lex.specs.declared.literals.Scan.{Scan}
use Rattle.jr_lex.specs.declared.literals.Scan.TheVariants as scan

-- the first len bytes of the text spell the symbol
pub record HasSymbol (text : List ℕ) (len : ℕ) (symbol : Symbol) : Type 0 where
  pub inside : len ≤ length text
  pub spells : take len text ≡ symbol_text symbol

-- what stands at the place between such quotes
abbrev pub IsPiece : ℕ → List ℕ → ℕ → Piece → Type 0
IsPiece quote text place (piece.Plain c end) = CharAt text place c × (is_plain quote c ≡ true) × (end ≡ place + len_utf8 c)
IsPiece quote text place (piece.Escape unit end) = (len : ℕ) × (escape_of (drop place text) ≡ Some (unit, len)) × (end ≡ place + 1 + len)
IsPiece quote text place piece.Close = (slice_index text place ≡ quote) × (place < length text)
IsPiece quote text place piece.BadEscape = (slice_index text place ≡ 92) × (escape_of (drop place text) ≡ None)
IsPiece quote text place piece.End = (length text ≤ place) ⊎ (is_line_end (slice_index text place) ≡ true)

-- how far characters and escapes reach behind the first quote, and what stands there
abbrev pub IsScan : ℕ → List ℕ → Scan → Type 0
IsScan quote text (scan.Literal units len) = (place : ℕ) × Characters quote text 1 place units.items × IsPiece quote text place piece.Close × (len ≡ place + 1)
IsScan quote text scan.BadEscape = (place : ℕ) × (units : List ℕ) × Characters quote text 1 place units × IsPiece quote text place piece.BadEscape
IsScan quote text scan.Open = (place : ℕ) × (units : List ℕ) × Characters quote text 1 place units × IsPiece quote text place piece.End

-- what a word is: the keyword of that spelling, or else a name
abbrev pub IsKindOf : List ℕ → Kind → Type 0
IsKindOf word (Word k) = keyword_text k ≡ word
IsKindOf word (Ident name) = (word ≡ name) × ((k : Keyword) → keyword_text k ≢ word)
IsKindOf word kind = ⊥

-- no integer stands at the front of the text
abbrev pub NoInteger : List ℕ → Type 0
NoInteger text = (len : ℕ) (kind : Kind) → len ≤ length text → integer_of (take len text) ≡ Some kind → EndsInteger (drop len text) → ⊥

-- what stands at the front of the text
abbrev pub IsItem : List ℕ → Item → Type 0
IsItem text (Gap len) = IsGap text len
IsItem text (Found kind len) = IsLongest text len kind

-- nothing starts there, and the fault tells why
abbrev pub IsFault : List ℕ → ℕ → LexFault → Type 0
IsFault text place OutOfMemory = Unit {0}
IsFault text place fault = NothingStarts text × Tells text place fault
