-- What holds of each row of the two tables: keywords are letters, symbols are up to four signs.
use Rattle.std.proofs.Common.{◌≡◌, ℕ, ◌<◌, ◌≤◌, Bool, true, ◌&&◌, ◌||◌, ◌==◌, not, nat_lt, refl, length}
use Rattle.std.specs.Prelude.{nat_le}
use Rattle.std.specs.Char.{is_ascii_alphabetic, is_ascii_alphanumeric}
use Rattle.std.specs.List.{list_all}
use Rattle.std.proofs.lemmas.Bool.{ltb-true, leb-true}
use Rattle.jr_base.specs.declared.kind.Keyword.{Keyword}
use Rattle.jr_base.specs.declared.kind.Keyword.TheVariants as keyword
use Rattle.jr_base.specs.declared.kind.Symbol.{Symbol}
use Rattle.jr_base.specs.declared.kind.Symbol.TheVariants as symbol
use Rattle.jr_base.specs.Gaps.{is_blank}
use Rattle.jr_base.specs.Literals.{is_quote}
use Rattle.jr_base.specs.Spellings.{keyword_text, symbol_text}
use Rattle.jr_lex.proofs.ByteLemmas.{both_left, both_right}

-- an ASCII byte that begins no word, number, literal or blank
abbrev pub is_sign : ℕ → Bool
is_sign b = (nat_lt b 128 && not (is_ascii_alphanumeric b || is_blank b)) && not (is_quote b || ((b == 95) || (b == 36)))

keyword_row : (k : Keyword) → (nat_lt 0 (length (keyword_text k)) && list_all is_ascii_alphabetic (keyword_text k)) ≡ true
keyword_row keyword.Abstract = refl
keyword_row keyword.Assert = refl
keyword_row keyword.Boolean = refl
keyword_row keyword.Break = refl
keyword_row keyword.Byte = refl
keyword_row keyword.Case = refl
keyword_row keyword.Catch = refl
keyword_row keyword.Char = refl
keyword_row keyword.Class = refl
keyword_row keyword.Const = refl
keyword_row keyword.Continue = refl
keyword_row keyword.Default = refl
keyword_row keyword.Do = refl
keyword_row keyword.Double = refl
keyword_row keyword.Else = refl
keyword_row keyword.Enum = refl
keyword_row keyword.Extends = refl
keyword_row keyword.Final = refl
keyword_row keyword.Finally = refl
keyword_row keyword.Float = refl
keyword_row keyword.For = refl
keyword_row keyword.Goto = refl
keyword_row keyword.If = refl
keyword_row keyword.Implements = refl
keyword_row keyword.Import = refl
keyword_row keyword.Instanceof = refl
keyword_row keyword.Int = refl
keyword_row keyword.Interface = refl
keyword_row keyword.Long = refl
keyword_row keyword.Native = refl
keyword_row keyword.New = refl
keyword_row keyword.Package = refl
keyword_row keyword.Private = refl
keyword_row keyword.Protected = refl
keyword_row keyword.Public = refl
keyword_row keyword.Return = refl
keyword_row keyword.Short = refl
keyword_row keyword.Static = refl
keyword_row keyword.Strictfp = refl
keyword_row keyword.Super = refl
keyword_row keyword.Switch = refl
keyword_row keyword.Synchronized = refl
keyword_row keyword.This = refl
keyword_row keyword.Throw = refl
keyword_row keyword.Throws = refl
keyword_row keyword.Transient = refl
keyword_row keyword.Try = refl
keyword_row keyword.Void = refl
keyword_row keyword.Volatile = refl
keyword_row keyword.While = refl
keyword_row keyword.True = refl
keyword_row keyword.False = refl
keyword_row keyword.Null = refl

symbol_row : (s : Symbol) → ((nat_lt 0 (length (symbol_text s)) && nat_le (length (symbol_text s)) 4) && list_all is_sign (symbol_text s)) ≡ true
symbol_row symbol.OpenParen = refl
symbol_row symbol.CloseParen = refl
symbol_row symbol.OpenBrace = refl
symbol_row symbol.CloseBrace = refl
symbol_row symbol.OpenBracket = refl
symbol_row symbol.CloseBracket = refl
symbol_row symbol.Semicolon = refl
symbol_row symbol.Comma = refl
symbol_row symbol.Dot = refl
symbol_row symbol.Assign = refl
symbol_row symbol.Greater = refl
symbol_row symbol.Less = refl
symbol_row symbol.Not = refl
symbol_row symbol.Tilde = refl
symbol_row symbol.Question = refl
symbol_row symbol.Colon = refl
symbol_row symbol.Equal = refl
symbol_row symbol.NotEqual = refl
symbol_row symbol.LessEqual = refl
symbol_row symbol.GreaterEqual = refl
symbol_row symbol.AndAnd = refl
symbol_row symbol.OrOr = refl
symbol_row symbol.PlusPlus = refl
symbol_row symbol.MinusMinus = refl
symbol_row symbol.Plus = refl
symbol_row symbol.Minus = refl
symbol_row symbol.Star = refl
symbol_row symbol.Slash = refl
symbol_row symbol.And = refl
symbol_row symbol.Or = refl
symbol_row symbol.Caret = refl
symbol_row symbol.Percent = refl
symbol_row symbol.ShiftLeft = refl
symbol_row symbol.ShiftRight = refl
symbol_row symbol.ShiftRightUnsigned = refl
symbol_row symbol.PlusAssign = refl
symbol_row symbol.MinusAssign = refl
symbol_row symbol.StarAssign = refl
symbol_row symbol.SlashAssign = refl
symbol_row symbol.AndAssign = refl
symbol_row symbol.OrAssign = refl
symbol_row symbol.CaretAssign = refl
symbol_row symbol.PercentAssign = refl
symbol_row symbol.ShiftLeftAssign = refl
symbol_row symbol.ShiftRightAssign = refl
symbol_row symbol.ShiftRightUnsignedAssign = refl

module _ (k : Keyword) where
  pub keyword_some : 0 < length (keyword_text k)
  keyword_some = ltb-true 0 (length (keyword_text k)) (both_left (nat_lt 0 (length (keyword_text k))) (list_all is_ascii_alphabetic (keyword_text k)) (keyword_row k))

  pub keyword_letters : list_all is_ascii_alphabetic (keyword_text k) ≡ true
  keyword_letters = both_right (nat_lt 0 (length (keyword_text k))) (list_all is_ascii_alphabetic (keyword_text k)) (keyword_row k)

module _ (s : Symbol) where
  size : Bool
  size = nat_lt 0 (length (symbol_text s)) && nat_le (length (symbol_text s)) 4

  symbol_size : size ≡ true
  unfolding size
  symbol_size = both_left size (list_all is_sign (symbol_text s)) (symbol_row s)

  pub symbol_some : 0 < length (symbol_text s)
  unfolding size
  symbol_some = ltb-true 0 (length (symbol_text s)) (both_left (nat_lt 0 (length (symbol_text s))) (nat_le (length (symbol_text s)) 4) symbol_size)

  pub symbol_short : length (symbol_text s) ≤ 4
  unfolding size
  symbol_short = leb-true (length (symbol_text s)) 4 (both_right (nat_lt 0 (length (symbol_text s))) (nat_le (length (symbol_text s)) 4) symbol_size)

  pub symbol_signs : list_all is_sign (symbol_text s) ≡ true
  unfolding size
  symbol_signs = both_right size (list_all is_sign (symbol_text s)) (symbol_row s)
