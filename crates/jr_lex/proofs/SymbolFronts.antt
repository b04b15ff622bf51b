-- A symbol before a text that begins with no sign (JLS 3.11, 3.12).
use Rattle.std.proofs.Common.{◌≡◌, ⊎_elim, ℕ, ◌<◌, ◌≤◌, Bool, true, false, ◌||◌, ◌&&◌, ◌==◌, not, List, [], ◌∷◌, ◌++◌, length, refl, sym, ◌∙◌, ap, arith, length-append}
use Rattle.std.specs.Prelude.{slice_index}
use Rattle.std.proofs.lemmas.Bool.{false≢true}
use Rattle.std.proofs.lemmas.Bool.Decides.{nat_tests}
use Rattle.std.proofs.lemmas.List.{get_or-take}
use Rattle.jr_base.specs.Gaps.{opens_line_comment, opens_block_comment}
use Rattle.jr_base.specs.Spellings.{symbol_text}
use Rattle.jr_base.specs.Tokens.{opens_fraction}
use Rattle.jr_base.specs.declared.kind.Symbol.{Symbol}
use Rattle.jr_base.specs.declared.kind.Symbol.TheVariants as symbol
use Rattle.jr_lex.specs.Items.{HasSymbol}
use Rattle.jr_lex.specs.Texts.{EndsSymbol, breaks_symbol, goes_on}
use Rattle.jr_lex.proofs.ByteLemmas.{all_each, both_left, both_right, le_or_lt, no_both}
use Rattle.jr_lex.proofs.SpellingTables.{is_sign, symbol_signs}
use Rattle.jr_lex.proofs.Respelling.{seam}
use Rattle.jr_lex.proofs.SymbolLemmas.{symbol_len}
use Rattle.jr_base.specs.Gaps.{is_blank}
use Rattle.jr_base.specs.Literals.{is_quote}

-- no symbol opens a comment by itself
no_comment_row : (s : Symbol) → (not (opens_line_comment (symbol_text s)) && not (opens_block_comment (symbol_text s))) ≡ true
no_comment_row symbol.OpenParen = refl
no_comment_row symbol.CloseParen = refl
no_comment_row symbol.OpenBrace = refl
no_comment_row symbol.CloseBrace = refl
no_comment_row symbol.OpenBracket = refl
no_comment_row symbol.CloseBracket = refl
no_comment_row symbol.Semicolon = refl
no_comment_row symbol.Comma = refl
no_comment_row symbol.Dot = refl
no_comment_row symbol.Assign = refl
no_comment_row symbol.Greater = refl
no_comment_row symbol.Less = refl
no_comment_row symbol.Not = refl
no_comment_row symbol.Tilde = refl
no_comment_row symbol.Question = refl
no_comment_row symbol.Colon = refl
no_comment_row symbol.Equal = refl
no_comment_row symbol.NotEqual = refl
no_comment_row symbol.LessEqual = refl
no_comment_row symbol.GreaterEqual = refl
no_comment_row symbol.AndAnd = refl
no_comment_row symbol.OrOr = refl
no_comment_row symbol.PlusPlus = refl
no_comment_row symbol.MinusMinus = refl
no_comment_row symbol.Plus = refl
no_comment_row symbol.Minus = refl
no_comment_row symbol.Star = refl
no_comment_row symbol.Slash = refl
no_comment_row symbol.And = refl
no_comment_row symbol.Or = refl
no_comment_row symbol.Caret = refl
no_comment_row symbol.Percent = refl
no_comment_row symbol.ShiftLeft = refl
no_comment_row symbol.ShiftRight = refl
no_comment_row symbol.ShiftRightUnsigned = refl
no_comment_row symbol.PlusAssign = refl
no_comment_row symbol.MinusAssign = refl
no_comment_row symbol.StarAssign = refl
no_comment_row symbol.SlashAssign = refl
no_comment_row symbol.AndAssign = refl
no_comment_row symbol.OrAssign = refl
no_comment_row symbol.CaretAssign = refl
no_comment_row symbol.PercentAssign = refl
no_comment_row symbol.ShiftLeftAssign = refl
no_comment_row symbol.ShiftRightAssign = refl
no_comment_row symbol.ShiftRightUnsignedAssign = refl

not_true : (b : Bool) → not b ≡ true → b ≡ false
not_true true h = absurd (false≢true h)
not_true false h = refl

-- what goes on a symbol's spelling is a sign
no_sign : (b : ℕ) → (goes_on b || (is_blank b || is_quote b)) ≡ true → is_sign b ≡ false
no_sign b h = grind (arith, nat_tests)

not_slash : (b : ℕ) → (goes_on b || (is_blank b || is_quote b)) ≡ true → (b == 47) ≡ false
not_slash b h = grind (arith, nat_tests)

not_star : (b : ℕ) → (goes_on b || (is_blank b || is_quote b)) ≡ true → (b == 42) ≡ false
not_star b h = grind (arith, nat_tests)

right_false : (x y : Bool) → y ≡ false → (x && y) ≡ false
right_false true y h = h
right_false false y h = refl

line_kept : (w rest : List ℕ) → opens_line_comment w ≡ false → breaks_symbol rest ≡ true → opens_line_comment (w ++ rest) ≡ false
line_kept [] [] h e = h
line_kept [] (b ∷ rest) h e = ap (λ x. x && (slice_index (b ∷ rest) 1 == 47)) (not_slash b e)
line_kept (x ∷ []) [] h e = h
line_kept (x ∷ []) (b ∷ rest) h e = right_false (x == 47) (b == 47) (not_slash b e)
line_kept (x ∷ y ∷ w) rest h e = h

block_kept : (w rest : List ℕ) → opens_block_comment w ≡ false → breaks_symbol rest ≡ true → opens_block_comment (w ++ rest) ≡ false
block_kept [] [] h e = h
block_kept [] (b ∷ rest) h e = ap (λ x. x && (slice_index (b ∷ rest) 1 == 42)) (not_slash b e)
block_kept (x ∷ []) [] h e = h
block_kept (x ∷ []) (b ∷ rest) h e = right_false (x == 47) (b == 42) (not_star b e)
block_kept (x ∷ y ∷ w) rest h e = h

first_no_sign : (rest : List ℕ) → breaks_symbol rest ≡ true → 0 < length rest → is_sign (slice_index rest 0) ≡ false
first_no_sign [] e l = absurd (omega arith)
first_no_sign (b ∷ rest) e l = no_sign b e

-- no symbol reaches past the seam
no_longer : (w rest : List ℕ) → breaks_symbol rest ≡ true → (len : ℕ) (r : Symbol) → HasSymbol (w ++ rest) len r → len ≤ length w
no_longer w rest e len r h = ⊎_elim (λ l. l) past (le_or_lt len (length w))
  where
    past : length w < len → len ≤ length w
    past l =
        let n = length w in
        let sign : is_sign (slice_index (symbol_text r) n) ≡ true = all_each is_sign (symbol_text r) (symbol_signs r) n (omega (arith, symbol_len (w ++ rest) len r h)) in
        let same : slice_index (symbol_text r) n ≡ slice_index rest 0 = ap (λ x. slice_index x n) (sym h.spells) ∙ (get_or-take len (w ++ rest) n 0 l ∙ seam w rest) in
        absurd (no_both (sym (ap is_sign same) ∙ sign) (first_no_sign rest e (omega (arith, h.inside, length-append w rest))))

pub symbol_ends : (s : Symbol) (w rest : List ℕ) → w ≡ symbol_text s → (breaks_symbol rest && not (opens_fraction (w ++ rest))) ≡ true → EndsSymbol w rest
symbol_ends s w rest e h =
    let breaks = both_left (breaks_symbol rest) (not (opens_fraction (w ++ rest))) h in
    let row = no_comment_row s in
    let a = not (opens_line_comment (symbol_text s)) in
    let b = not (opens_block_comment (symbol_text s)) in
    record {
      starts = record {
        no_line = line_kept w rest (ap opens_line_comment e ∙ not_true (opens_line_comment (symbol_text s)) (both_left a b row)) breaks;
        no_block = block_kept w rest (ap opens_block_comment e ∙ not_true (opens_block_comment (symbol_text s)) (both_right a b row)) breaks;
        no_fraction = not_true (opens_fraction (w ++ rest)) (both_right (breaks_symbol rest) (not (opens_fraction (w ++ rest))) h);
      };
      longest = no_longer w rest breaks;
    }
