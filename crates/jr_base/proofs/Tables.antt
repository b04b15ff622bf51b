-- A spelling belongs to one keyword, and to one symbol. Symbols are ASCII.
use Rattle.std.proofs.Common.{◌≡◌, ℕ, true, List, [], ◌∷◌, refl, sym, ◌∙◌, ap, Option, Some, None, cond}
use Rattle.std.specs.Str.{bytes_eq}
use Rattle.std.specs.List.{list_all}
use Rattle.std.specs.Char.{is_ascii}
use Rattle.jr_base.specs.declared.kind.Keyword.{Keyword}
use Rattle.jr_base.specs.declared.kind.Keyword.TheVariants as keyword
use Rattle.jr_base.specs.declared.kind.Symbol.{Symbol}
use Rattle.jr_base.specs.declared.kind.Symbol.TheVariants as symbol
use Rattle.jr_base.specs.Spellings.{keyword_text, symbol_text}

-- the first of the list that is spelled so
named : {A : Type 0} → (A → List ℕ) → List ℕ → List A → Option A
named text w [] = None
named text w (x ∷ xs) = cond (bytes_eq (text x) w) (Some x) (named text w xs)

all_keywords : List Keyword
all_keywords = keyword.Abstract ∷ keyword.Assert ∷ keyword.Boolean ∷ keyword.Break ∷ keyword.Byte ∷ keyword.Case ∷ keyword.Catch ∷ keyword.Char ∷ keyword.Class ∷ keyword.Const ∷ keyword.Continue ∷ keyword.Default ∷ keyword.Do ∷ keyword.Double ∷ keyword.Else ∷ keyword.Enum ∷ keyword.Extends ∷ keyword.Final ∷ keyword.Finally ∷ keyword.Float ∷ keyword.For ∷ keyword.Goto ∷ keyword.If ∷ keyword.Implements ∷ keyword.Import ∷ keyword.Instanceof ∷ keyword.Int ∷ keyword.Interface ∷ keyword.Long ∷ keyword.Native ∷ keyword.New ∷ keyword.Package ∷ keyword.Private ∷ keyword.Protected ∷ keyword.Public ∷ keyword.Return ∷ keyword.Short ∷ keyword.Static ∷ keyword.Strictfp ∷ keyword.Super ∷ keyword.Switch ∷ keyword.Synchronized ∷ keyword.This ∷ keyword.Throw ∷ keyword.Throws ∷ keyword.Transient ∷ keyword.Try ∷ keyword.Void ∷ keyword.Volatile ∷ keyword.While ∷ keyword.True ∷ keyword.False ∷ keyword.Null ∷ []

all_symbols : List Symbol
all_symbols = symbol.OpenParen ∷ symbol.CloseParen ∷ symbol.OpenBrace ∷ symbol.CloseBrace ∷ symbol.OpenBracket ∷ symbol.CloseBracket ∷ symbol.Semicolon ∷ symbol.Comma ∷ symbol.Dot ∷ symbol.Assign ∷ symbol.Greater ∷ symbol.Less ∷ symbol.Not ∷ symbol.Tilde ∷ symbol.Question ∷ symbol.Colon ∷ symbol.Equal ∷ symbol.NotEqual ∷ symbol.LessEqual ∷ symbol.GreaterEqual ∷ symbol.AndAnd ∷ symbol.OrOr ∷ symbol.PlusPlus ∷ symbol.MinusMinus ∷ symbol.Plus ∷ symbol.Minus ∷ symbol.Star ∷ symbol.Slash ∷ symbol.And ∷ symbol.Or ∷ symbol.Caret ∷ symbol.Percent ∷ symbol.ShiftLeft ∷ symbol.ShiftRight ∷ symbol.ShiftRightUnsigned ∷ symbol.PlusAssign ∷ symbol.MinusAssign ∷ symbol.StarAssign ∷ symbol.SlashAssign ∷ symbol.AndAssign ∷ symbol.OrAssign ∷ symbol.CaretAssign ∷ symbol.PercentAssign ∷ symbol.ShiftLeftAssign ∷ symbol.ShiftRightAssign ∷ symbol.ShiftRightUnsignedAssign ∷ []

keyword_named : (k : Keyword) → named keyword_text (keyword_text k) all_keywords ≡ Some k
unfolding named all_keywords
keyword_named keyword.Abstract = refl
keyword_named keyword.Assert = refl
keyword_named keyword.Boolean = refl
keyword_named keyword.Break = refl
keyword_named keyword.Byte = refl
keyword_named keyword.Case = refl
keyword_named keyword.Catch = refl
keyword_named keyword.Char = refl
keyword_named keyword.Class = refl
keyword_named keyword.Const = refl
keyword_named keyword.Continue = refl
keyword_named keyword.Default = refl
keyword_named keyword.Do = refl
keyword_named keyword.Double = refl
keyword_named keyword.Else = refl
keyword_named keyword.Enum = refl
keyword_named keyword.Extends = refl
keyword_named keyword.Final = refl
keyword_named keyword.Finally = refl
keyword_named keyword.Float = refl
keyword_named keyword.For = refl
keyword_named keyword.Goto = refl
keyword_named keyword.If = refl
keyword_named keyword.Implements = refl
keyword_named keyword.Import = refl
keyword_named keyword.Instanceof = refl
keyword_named keyword.Int = refl
keyword_named keyword.Interface = refl
keyword_named keyword.Long = refl
keyword_named keyword.Native = refl
keyword_named keyword.New = refl
keyword_named keyword.Package = refl
keyword_named keyword.Private = refl
keyword_named keyword.Protected = refl
keyword_named keyword.Public = refl
keyword_named keyword.Return = refl
keyword_named keyword.Short = refl
keyword_named keyword.Static = refl
keyword_named keyword.Strictfp = refl
keyword_named keyword.Super = refl
keyword_named keyword.Switch = refl
keyword_named keyword.Synchronized = refl
keyword_named keyword.This = refl
keyword_named keyword.Throw = refl
keyword_named keyword.Throws = refl
keyword_named keyword.Transient = refl
keyword_named keyword.Try = refl
keyword_named keyword.Void = refl
keyword_named keyword.Volatile = refl
keyword_named keyword.While = refl
keyword_named keyword.True = refl
keyword_named keyword.False = refl
keyword_named keyword.Null = refl

symbol_named : (s : Symbol) → named symbol_text (symbol_text s) all_symbols ≡ Some s
unfolding named all_symbols
symbol_named symbol.OpenParen = refl
symbol_named symbol.CloseParen = refl
symbol_named symbol.OpenBrace = refl
symbol_named symbol.CloseBrace = refl
symbol_named symbol.OpenBracket = refl
symbol_named symbol.CloseBracket = refl
symbol_named symbol.Semicolon = refl
symbol_named symbol.Comma = refl
symbol_named symbol.Dot = refl
symbol_named symbol.Assign = refl
symbol_named symbol.Greater = refl
symbol_named symbol.Less = refl
symbol_named symbol.Not = refl
symbol_named symbol.Tilde = refl
symbol_named symbol.Question = refl
symbol_named symbol.Colon = refl
symbol_named symbol.Equal = refl
symbol_named symbol.NotEqual = refl
symbol_named symbol.LessEqual = refl
symbol_named symbol.GreaterEqual = refl
symbol_named symbol.AndAnd = refl
symbol_named symbol.OrOr = refl
symbol_named symbol.PlusPlus = refl
symbol_named symbol.MinusMinus = refl
symbol_named symbol.Plus = refl
symbol_named symbol.Minus = refl
symbol_named symbol.Star = refl
symbol_named symbol.Slash = refl
symbol_named symbol.And = refl
symbol_named symbol.Or = refl
symbol_named symbol.Caret = refl
symbol_named symbol.Percent = refl
symbol_named symbol.ShiftLeft = refl
symbol_named symbol.ShiftRight = refl
symbol_named symbol.ShiftRightUnsigned = refl
symbol_named symbol.PlusAssign = refl
symbol_named symbol.MinusAssign = refl
symbol_named symbol.StarAssign = refl
symbol_named symbol.SlashAssign = refl
symbol_named symbol.AndAssign = refl
symbol_named symbol.OrAssign = refl
symbol_named symbol.CaretAssign = refl
symbol_named symbol.PercentAssign = refl
symbol_named symbol.ShiftLeftAssign = refl
symbol_named symbol.ShiftRightAssign = refl
symbol_named symbol.ShiftRightUnsignedAssign = refl

pub symbol_ascii : (s : Symbol) → list_all is_ascii (symbol_text s) ≡ true
symbol_ascii symbol.OpenParen = refl
symbol_ascii symbol.CloseParen = refl
symbol_ascii symbol.OpenBrace = refl
symbol_ascii symbol.CloseBrace = refl
symbol_ascii symbol.OpenBracket = refl
symbol_ascii symbol.CloseBracket = refl
symbol_ascii symbol.Semicolon = refl
symbol_ascii symbol.Comma = refl
symbol_ascii symbol.Dot = refl
symbol_ascii symbol.Assign = refl
symbol_ascii symbol.Greater = refl
symbol_ascii symbol.Less = refl
symbol_ascii symbol.Not = refl
symbol_ascii symbol.Tilde = refl
symbol_ascii symbol.Question = refl
symbol_ascii symbol.Colon = refl
symbol_ascii symbol.Equal = refl
symbol_ascii symbol.NotEqual = refl
symbol_ascii symbol.LessEqual = refl
symbol_ascii symbol.GreaterEqual = refl
symbol_ascii symbol.AndAnd = refl
symbol_ascii symbol.OrOr = refl
symbol_ascii symbol.PlusPlus = refl
symbol_ascii symbol.MinusMinus = refl
symbol_ascii symbol.Plus = refl
symbol_ascii symbol.Minus = refl
symbol_ascii symbol.Star = refl
symbol_ascii symbol.Slash = refl
symbol_ascii symbol.And = refl
symbol_ascii symbol.Or = refl
symbol_ascii symbol.Caret = refl
symbol_ascii symbol.Percent = refl
symbol_ascii symbol.ShiftLeft = refl
symbol_ascii symbol.ShiftRight = refl
symbol_ascii symbol.ShiftRightUnsigned = refl
symbol_ascii symbol.PlusAssign = refl
symbol_ascii symbol.MinusAssign = refl
symbol_ascii symbol.StarAssign = refl
symbol_ascii symbol.SlashAssign = refl
symbol_ascii symbol.AndAssign = refl
symbol_ascii symbol.OrAssign = refl
symbol_ascii symbol.CaretAssign = refl
symbol_ascii symbol.PercentAssign = refl
symbol_ascii symbol.ShiftLeftAssign = refl
symbol_ascii symbol.ShiftRightAssign = refl
symbol_ascii symbol.ShiftRightUnsignedAssign = refl

some_one : {A : Type 0} {x y : A} → Some x ≡ Some y → x ≡ y
some_one e = cc

pub keyword_one : (j k : Keyword) → keyword_text j ≡ keyword_text k → j ≡ k
keyword_one j k same = some_one (sym (keyword_named j) ∙ ap (λ w. named keyword_text w all_keywords) same ∙ keyword_named k)

pub symbol_one : (r s : Symbol) → symbol_text r ≡ symbol_text s → r ≡ s
symbol_one r s same = some_one (sym (symbol_named r) ∙ ap (λ w. named symbol_text w all_symbols) same ∙ symbol_named s)
