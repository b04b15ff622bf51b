-- Each keyword is the one of its length and first two letters; symbols by their first two bytes.
use Rattle.std.proofs.Common.{◌≡◌, ⊎_elim, ℕ, ◌<◌, ◌≤◌, Bool, true, false, ◌||◌, ◌==◌, not, zero, suc, nat_lt, List, [], ◌∷◌, take, length, refl, sym, ◌∙◌, ap, arith, Option, Some, None}
use Rattle.std.specs.Prelude.{nat_le, slice_index}
use Rattle.std.proofs.lemmas.Bool.{false≢true, leb-true, ltb-true}
use Rattle.std.proofs.lemmas.List.{get_or-take}
use Rattle.jr_base.specs.declared.kind.Keyword.{Keyword}
use Rattle.jr_base.specs.declared.kind.Keyword.TheVariants as keyword
use Rattle.jr_base.specs.declared.kind.Symbol.{Symbol}
use Rattle.jr_base.specs.declared.kind.Symbol.TheVariants as symbol
use Rattle.jr_base.specs.Spellings.{keyword_text, symbol_text}
use Rattle.jr_lex.specs.Candidates.{candidate, is_second, is_lone}
use Rattle.jr_lex.specs.Items.{HasSymbol}
use Rattle.jr_lex.proofs.ByteLemmas.{le_or_lt}
use Rattle.jr_lex.proofs.SymbolLemmas.{symbol_len}

pub candidate_row : (k : Keyword) → candidate (length (keyword_text k)) (slice_index (keyword_text k) 0) (slice_index (keyword_text k) 1) ≡ Some k
candidate_row keyword.Abstract = refl
candidate_row keyword.Assert = refl
candidate_row keyword.Boolean = refl
candidate_row keyword.Break = refl
candidate_row keyword.Byte = refl
candidate_row keyword.Case = refl
candidate_row keyword.Catch = refl
candidate_row keyword.Char = refl
candidate_row keyword.Class = refl
candidate_row keyword.Const = refl
candidate_row keyword.Continue = refl
candidate_row keyword.Default = refl
candidate_row keyword.Do = refl
candidate_row keyword.Double = refl
candidate_row keyword.Else = refl
candidate_row keyword.Enum = refl
candidate_row keyword.Extends = refl
candidate_row keyword.Final = refl
candidate_row keyword.Finally = refl
candidate_row keyword.Float = refl
candidate_row keyword.For = refl
candidate_row keyword.Goto = refl
candidate_row keyword.If = refl
candidate_row keyword.Implements = refl
candidate_row keyword.Import = refl
candidate_row keyword.Instanceof = refl
candidate_row keyword.Int = refl
candidate_row keyword.Interface = refl
candidate_row keyword.Long = refl
candidate_row keyword.Native = refl
candidate_row keyword.New = refl
candidate_row keyword.Package = refl
candidate_row keyword.Private = refl
candidate_row keyword.Protected = refl
candidate_row keyword.Public = refl
candidate_row keyword.Return = refl
candidate_row keyword.Short = refl
candidate_row keyword.Static = refl
candidate_row keyword.Strictfp = refl
candidate_row keyword.Super = refl
candidate_row keyword.Switch = refl
candidate_row keyword.Synchronized = refl
candidate_row keyword.This = refl
candidate_row keyword.Throw = refl
candidate_row keyword.Throws = refl
candidate_row keyword.Transient = refl
candidate_row keyword.Try = refl
candidate_row keyword.Void = refl
candidate_row keyword.Volatile = refl
candidate_row keyword.While = refl
candidate_row keyword.True = refl
candidate_row keyword.False = refl
candidate_row keyword.Null = refl

second_row : (s : Symbol) → (nat_le (length (symbol_text s)) 1 || is_second (slice_index (symbol_text s) 1)) ≡ true
second_row symbol.OpenParen = refl
second_row symbol.CloseParen = refl
second_row symbol.OpenBrace = refl
second_row symbol.CloseBrace = refl
second_row symbol.OpenBracket = refl
second_row symbol.CloseBracket = refl
second_row symbol.Semicolon = refl
second_row symbol.Comma = refl
second_row symbol.Dot = refl
second_row symbol.Assign = refl
second_row symbol.Greater = refl
second_row symbol.Less = refl
second_row symbol.Not = refl
second_row symbol.Tilde = refl
second_row symbol.Question = refl
second_row symbol.Colon = refl
second_row symbol.Equal = refl
second_row symbol.NotEqual = refl
second_row symbol.LessEqual = refl
second_row symbol.GreaterEqual = refl
second_row symbol.AndAnd = refl
second_row symbol.OrOr = refl
second_row symbol.PlusPlus = refl
second_row symbol.MinusMinus = refl
second_row symbol.Plus = refl
second_row symbol.Minus = refl
second_row symbol.Star = refl
second_row symbol.Slash = refl
second_row symbol.And = refl
second_row symbol.Or = refl
second_row symbol.Caret = refl
second_row symbol.Percent = refl
second_row symbol.ShiftLeft = refl
second_row symbol.ShiftRight = refl
second_row symbol.ShiftRightUnsigned = refl
second_row symbol.PlusAssign = refl
second_row symbol.MinusAssign = refl
second_row symbol.StarAssign = refl
second_row symbol.SlashAssign = refl
second_row symbol.AndAssign = refl
second_row symbol.OrAssign = refl
second_row symbol.CaretAssign = refl
second_row symbol.PercentAssign = refl
second_row symbol.ShiftLeftAssign = refl
second_row symbol.ShiftRightAssign = refl
second_row symbol.ShiftRightUnsignedAssign = refl

lone_row : (s : Symbol) → (nat_le (length (symbol_text s)) 1 || not (is_lone (slice_index (symbol_text s) 0))) ≡ true
lone_row symbol.OpenParen = refl
lone_row symbol.CloseParen = refl
lone_row symbol.OpenBrace = refl
lone_row symbol.CloseBrace = refl
lone_row symbol.OpenBracket = refl
lone_row symbol.CloseBracket = refl
lone_row symbol.Semicolon = refl
lone_row symbol.Comma = refl
lone_row symbol.Dot = refl
lone_row symbol.Assign = refl
lone_row symbol.Greater = refl
lone_row symbol.Less = refl
lone_row symbol.Not = refl
lone_row symbol.Tilde = refl
lone_row symbol.Question = refl
lone_row symbol.Colon = refl
lone_row symbol.Equal = refl
lone_row symbol.NotEqual = refl
lone_row symbol.LessEqual = refl
lone_row symbol.GreaterEqual = refl
lone_row symbol.AndAnd = refl
lone_row symbol.OrOr = refl
lone_row symbol.PlusPlus = refl
lone_row symbol.MinusMinus = refl
lone_row symbol.Plus = refl
lone_row symbol.Minus = refl
lone_row symbol.Star = refl
lone_row symbol.Slash = refl
lone_row symbol.And = refl
lone_row symbol.Or = refl
lone_row symbol.Caret = refl
lone_row symbol.Percent = refl
lone_row symbol.ShiftLeft = refl
lone_row symbol.ShiftRight = refl
lone_row symbol.ShiftRightUnsigned = refl
lone_row symbol.PlusAssign = refl
lone_row symbol.MinusAssign = refl
lone_row symbol.StarAssign = refl
lone_row symbol.SlashAssign = refl
lone_row symbol.AndAssign = refl
lone_row symbol.OrAssign = refl
lone_row symbol.CaretAssign = refl
lone_row symbol.PercentAssign = refl
lone_row symbol.ShiftLeftAssign = refl
lone_row symbol.ShiftRightAssign = refl
lone_row symbol.ShiftRightUnsignedAssign = refl

long_row : (k : Keyword) → nat_lt 1 (length (keyword_text k)) ≡ true
long_row keyword.Abstract = refl
long_row keyword.Assert = refl
long_row keyword.Boolean = refl
long_row keyword.Break = refl
long_row keyword.Byte = refl
long_row keyword.Case = refl
long_row keyword.Catch = refl
long_row keyword.Char = refl
long_row keyword.Class = refl
long_row keyword.Const = refl
long_row keyword.Continue = refl
long_row keyword.Default = refl
long_row keyword.Do = refl
long_row keyword.Double = refl
long_row keyword.Else = refl
long_row keyword.Enum = refl
long_row keyword.Extends = refl
long_row keyword.Final = refl
long_row keyword.Finally = refl
long_row keyword.Float = refl
long_row keyword.For = refl
long_row keyword.Goto = refl
long_row keyword.If = refl
long_row keyword.Implements = refl
long_row keyword.Import = refl
long_row keyword.Instanceof = refl
long_row keyword.Int = refl
long_row keyword.Interface = refl
long_row keyword.Long = refl
long_row keyword.Native = refl
long_row keyword.New = refl
long_row keyword.Package = refl
long_row keyword.Private = refl
long_row keyword.Protected = refl
long_row keyword.Public = refl
long_row keyword.Return = refl
long_row keyword.Short = refl
long_row keyword.Static = refl
long_row keyword.Strictfp = refl
long_row keyword.Super = refl
long_row keyword.Switch = refl
long_row keyword.Synchronized = refl
long_row keyword.This = refl
long_row keyword.Throw = refl
long_row keyword.Throws = refl
long_row keyword.Transient = refl
long_row keyword.Try = refl
long_row keyword.Void = refl
long_row keyword.Volatile = refl
long_row keyword.While = refl
long_row keyword.True = refl
long_row keyword.False = refl
long_row keyword.Null = refl

pub keyword_long : (k : Keyword) → 1 < length (keyword_text k)
keyword_long k = ltb-true 1 (length (keyword_text k)) (long_row k)

-- where one of two tests passes and the second fails, the first passes
left_of : (x y : Bool) → (x || y) ≡ true → y ≡ false → x ≡ true
left_of true y h e = refl
left_of false y h e = absurd (false≢true (sym e ∙ h))

-- the first bytes of a symbol that a text begins with are the text's
first_of : (text : List ℕ) (len : ℕ) (s : Symbol) (i : ℕ) → HasSymbol text len s → i < len → slice_index (symbol_text s) i ≡ slice_index text i
first_of text len s i h l = ap (λ w. slice_index w i) (sym h.spells) ∙ get_or-take len text i 0 l

pub nonzero : (n : ℕ) → (n == 0) ≡ false → 0 < n
nonzero zero h = absurd (false≢true (sym h))
nonzero (suc n) h = omega arith

pub lone_found : (text : List ℕ) (s : Symbol) → 0 < length text → symbol_text s ≡ slice_index text 0 ∷ [] → HasSymbol text 1 s
lone_found text s l e = record { inside = omega (arith, l); spells = front text l ∙ sym e }
  where
    front : (text : List ℕ) → 0 < length text → take 1 text ≡ slice_index text 0 ∷ []
    front [] l = absurd (omega (arith, l))
    front (b ∷ rest) l = refl

pub lone_len : (text : List ℕ) (len : ℕ) (s : Symbol) → is_lone (slice_index text 0) ≡ true → HasSymbol text len s → len ≤ 1
lone_len text len s e h = ⊎_elim (λ l. l) by (le_or_lt len 1)
  where
    by : 1 < len → len ≤ 1
    by l =
        let same = ap is_lone (first_of text len s 0 h (omega arith)) ∙ e in
        let short = leb-true (length (symbol_text s)) 1 (left_of (nat_le (length (symbol_text s)) 1) (not (is_lone (slice_index (symbol_text s) 0))) (lone_row s) (ap not same)) in
        omega (arith, short, symbol_len text len s h)

pub second_len : (text : List ℕ) (len : ℕ) (s : Symbol) → is_second (slice_index text 1) ≡ false → HasSymbol text len s → len ≤ 1
second_len text len s e h = ⊎_elim (λ l. l) by (le_or_lt len 1)
  where
    by : 1 < len → len ≤ 1
    by l =
        let same = ap is_second (first_of text len s 1 h l) ∙ e in
        let short = leb-true (length (symbol_text s)) 1 (left_of (nat_le (length (symbol_text s)) 1) (is_second (slice_index (symbol_text s) 1)) (second_row s) same) in
        omega (arith, short, symbol_len text len s h)
