-- A plain test that a text is these tokens, with one blank or none between any two, reads so.
use Rattle.std.proofs.Common.{◌≡◌, inl, ℕ, zero, suc, ◌+◌, ◌≤◌, Bool, true, false, not, ◌||◌, ◌&&◌, ◌==◌, List, [], ◌∷◌, ◌++◌, map, length, take, drop, refl, sym, ◌∙◌, ap, subst, arith}
use Rattle.std.specs.Prelude.{nat_le, slice_index}
use Rattle.std.specs.Str.{bytes_eq}
use Rattle.std.proofs.lemmas.Bool.{false≢true, leb-true}
use Rattle.std.proofs.lemmas.List.{take-append-drop}
use Rattle.std.proofs.lemmas.Slice.Eq.{bytes_eq-Decides}
use Rattle.jr_base.specs.Gaps.{is_blank}
use Rattle.jr_base.specs.Literals.{IsLiteral}
use Rattle.jr_base.specs.Spellings.{keyword_text, symbol_text}
use Rattle.jr_base.specs.Tokens.{Spells}
use Rattle.jr_base.specs.declared.kind.Kind.{Kind}
use Rattle.jr_base.specs.declared.kind.Kind.TheVariants.{Word, Ident, Int, IntMin, Long, LongMin, Char, Str, Sym}
use Rattle.jr_base.specs.declared.kind.Symbol.{Symbol}
use Rattle.jr_base.specs.declared.kind.Symbol.TheVariants as symbol
use Rattle.jr_lex.specs.Items.{HasSymbol}
use Rattle.jr_lex.specs.Texts.{EndsSymbol, Follows, Chunk, space, spelled, text_of, tokens_of, AllStand, simply_follows}
use Rattle.jr_lex.proofs.ByteLemmas.{both_left, both_right}
use Rattle.jr_lex.proofs.Following.{simply}
use Rattle.jr_lex.proofs.SymbolLemmas.{symbol_len}
use Rattle.jr_prelude.proofs.Literals.{literal_text, is_text, literal}
use Rattle.jr_prelude.proofs.Names.{is_plain_name, plain_identifier}

-- ---- separators, which begin no longer symbol

abbrev is_separator : ℕ → Bool
is_separator b = ((b == 40) || (b == 41)) || ((b == 59) || ((b == 123) || (b == 125)))

separator_row : (s : Symbol) → (not (is_separator (slice_index (symbol_text s) 0)) || nat_le (length (symbol_text s)) 1) ≡ true
separator_row symbol.OpenParen = refl
separator_row symbol.CloseParen = refl
separator_row symbol.OpenBrace = refl
separator_row symbol.CloseBrace = refl
separator_row symbol.OpenBracket = refl
separator_row symbol.CloseBracket = refl
separator_row symbol.Semicolon = refl
separator_row symbol.Comma = refl
separator_row symbol.Dot = refl
separator_row symbol.Assign = refl
separator_row symbol.Greater = refl
separator_row symbol.Less = refl
separator_row symbol.Not = refl
separator_row symbol.Tilde = refl
separator_row symbol.Question = refl
separator_row symbol.Colon = refl
separator_row symbol.Equal = refl
separator_row symbol.NotEqual = refl
separator_row symbol.LessEqual = refl
separator_row symbol.GreaterEqual = refl
separator_row symbol.AndAnd = refl
separator_row symbol.OrOr = refl
separator_row symbol.PlusPlus = refl
separator_row symbol.MinusMinus = refl
separator_row symbol.Plus = refl
separator_row symbol.Minus = refl
separator_row symbol.Star = refl
separator_row symbol.Slash = refl
separator_row symbol.And = refl
separator_row symbol.Or = refl
separator_row symbol.Caret = refl
separator_row symbol.Percent = refl
separator_row symbol.ShiftLeft = refl
separator_row symbol.ShiftRight = refl
separator_row symbol.ShiftRightUnsigned = refl
separator_row symbol.PlusAssign = refl
separator_row symbol.MinusAssign = refl
separator_row symbol.StarAssign = refl
separator_row symbol.SlashAssign = refl
separator_row symbol.AndAssign = refl
separator_row symbol.OrAssign = refl
separator_row symbol.CaretAssign = refl
separator_row symbol.PercentAssign = refl
separator_row symbol.ShiftLeftAssign = refl
separator_row symbol.ShiftRightAssign = refl
separator_row symbol.ShiftRightUnsignedAssign = refl

-- a symbol that is a separator is one byte
abbrev pub separates : Symbol → Bool
separates symbol.OpenParen = true
separates symbol.CloseParen = true
separates symbol.OpenBrace = true
separates symbol.CloseBrace = true
separates symbol.Semicolon = true
separates _ = false

short_of : (s : Symbol) → is_separator (slice_index (symbol_text s) 0) ≡ true → length (symbol_text s) ≤ 1
short_of s h = leb-true (length (symbol_text s)) 1 (or_right (is_separator (slice_index (symbol_text s) 0)) (nat_le (length (symbol_text s)) 1) h (separator_row s))
  where
    or_right : (x y : Bool) → x ≡ true → (not x || y) ≡ true → y ≡ true
    or_right true y e h = h
    or_right false y e h = absurd (false≢true e)

-- no symbol that begins with a separator is longer
longest_of : (b : ℕ) (rest : List ℕ) → is_separator b ≡ true → (len : ℕ) (other : Symbol) → HasSymbol (b ∷ rest) len other → len ≤ 1
longest_of b rest h len other has =
    let same = symbol_len (b ∷ rest) len other has in
    first len same has.spells
  where
    first : (len : ℕ) → len ≡ length (symbol_text other) → take len (b ∷ rest) ≡ symbol_text other → len ≤ 1
    first zero same e = omega arith
    first (suc n) same e = let short = short_of other (subst (λ w. is_separator (slice_index w 0) ≡ true) e h) in omega arith

separated : (s : Symbol) (rest : List ℕ) → separates s ≡ true → EndsSymbol (symbol_text s) rest
separated symbol.OpenParen rest h = record { starts = record { no_line = refl; no_block = refl; no_fraction = refl }; longest = longest_of 40 rest refl }
separated symbol.CloseParen rest h = record { starts = record { no_line = refl; no_block = refl; no_fraction = refl }; longest = longest_of 41 rest refl }
separated symbol.OpenBrace rest h = record { starts = record { no_line = refl; no_block = refl; no_fraction = refl }; longest = longest_of 123 rest refl }
separated symbol.CloseBrace rest h = record { starts = record { no_line = refl; no_block = refl; no_fraction = refl }; longest = longest_of 125 rest refl }
separated symbol.Semicolon rest h = record { starts = record { no_line = refl; no_block = refl; no_fraction = refl }; longest = longest_of 59 rest refl }
separated _ rest h = absurd (false≢true h)

-- ---- the test

-- how long the spelling is
abbrev size : Kind → ℕ
size (Word k) = length (keyword_text k)
size (Ident name) = length name
size (Str units) = length (literal_text units)
size (Sym s) = length (symbol_text s)
size _ = 0

-- the word spells the kind, and the text may stand behind it
abbrev fits : Kind → List ℕ → List ℕ → Bool
fits (Word k) word rest = bytes_eq word (keyword_text k) && simply_follows (Word k) word rest
fits (Ident name) word rest = (bytes_eq word name && is_plain_name word) && simply_follows (Ident name) word rest
fits (Str units) word rest = bytes_eq word (literal_text units) && is_text units
fits (Sym s) word rest = bytes_eq word (symbol_text s) && (separates s || simply_follows (Sym s) word rest)
fits _ word rest = false

abbrev choose : Bool → (Unit {0} → Bool) → (Unit {0} → Bool) → Bool
choose true f g = f tt
choose false f g = g tt

abbrev token_then : (List Kind → List ℕ → Bool) → List Kind → List ℕ → Bool
token_then go [] text = false
token_then go (k ∷ ks) text = fits k (take (size k) text) (drop (size k) text) && go ks (drop (size k) text)

-- the text is these tokens and blanks, in so many steps
abbrev pub is_laid : ℕ → List Kind → List ℕ → Bool
is_laid zero ks text = false
is_laid (suc n) [] [] = true
is_laid (suc n) (k ∷ ks) [] = false
is_laid (suc n) ks (b ∷ text) = choose (is_blank b) (λ u. is_laid n ks text) (λ u. token_then (λ ks rest. is_laid n ks rest) ks (b ∷ text))

-- ---- what it tells

pub record IsLaid (ks : List Kind) (text : List ℕ) : Type 0 where
  pub chunks : List Chunk
  pub spells : text_of chunks ≡ text
  pub stand : AllStand chunks
  pub kinds : (at : ℕ) → map (λ t. t.kind) (tokens_of at chunks) ≡ ks

same_bytes : (xs ys : List ℕ) → bytes_eq xs ys ≡ true → xs ≡ ys
same_bytes xs ys h = (bytes_eq-Decides xs ys).0 h

either : (s : Symbol) (word rest : List ℕ) (t : Bool) → separates s ≡ t → word ≡ symbol_text s → (t || simply_follows (Sym s) word rest) ≡ true → EndsSymbol word rest
either s word rest true e is h = subst (λ w. EndsSymbol w rest) (sym is) (separated s rest e)
either s word rest false e is h = simply (Sym s) word rest is h

fits_so : (k : Kind) (word rest : List ℕ) → fits k word rest ≡ true → Spells k word × Follows k word rest
fits_so (Word k) word rest h =
    let is = same_bytes word (keyword_text k) (both_left (bytes_eq word (keyword_text k)) (simply_follows (Word k) word rest) h) in
    (is, simply (Word k) word rest is (both_right (bytes_eq word (keyword_text k)) (simply_follows (Word k) word rest) h))
fits_so (Ident name) word rest h =
    let a = bytes_eq word name in
    let b = is_plain_name word in
    let f = simply_follows (Ident name) word rest in
    let is : Spells (Ident name) word = (same_bytes word name (both_left a b (both_left (a && b) f h)), plain_identifier word (both_right a b (both_left (a && b) f h))) in
    (is, simply (Ident name) word rest is (both_right (a && b) f h))
fits_so (Str units) word rest h =
    let a = bytes_eq word (literal_text units) in
    (subst (λ w. IsLiteral 34 w units) (sym (same_bytes word (literal_text units) (both_left a (is_text units) h))) (literal units (both_right a (is_text units) h)), tt)
fits_so (Sym s) word rest h =
    let a = bytes_eq word (symbol_text s) in
    let b = separates s || simply_follows (Sym s) word rest in
    let is = same_bytes word (symbol_text s) (both_left a b h) in
    (is, either s word rest (separates s) refl is (both_right a b h))
fits_so (Int v) word rest h = absurd (false≢true h)
fits_so IntMin word rest h = absurd (false≢true h)
fits_so (Long v) word rest h = absurd (false≢true h)
fits_so LongMin word rest h = absurd (false≢true h)
fits_so (Char u) word rest h = absurd (false≢true h)

laid_blank : (b : ℕ) (ks : List Kind) (text : List ℕ) → is_blank b ≡ true → IsLaid ks text → IsLaid ks (b ∷ text)
laid_blank b ks text h l = record {
  chunks = space (b ∷ []) ∷ l.chunks;
  spells = ap (λ w. b ∷ w) l.spells;
  stand = ((inl (record { blank = h; one = refl }), λ opens some. absurd (false≢true (both_right (b == 47) false opens))), l.stand);
  kinds = λ at. l.kinds (at + 1);
}

laid_token : (k : Kind) (ks : List Kind) (text : List ℕ) → fits k (take (size k) text) (drop (size k) text) ≡ true → IsLaid ks (drop (size k) text) → IsLaid (k ∷ ks) text
laid_token k ks text h l =
    let word = take (size k) text in
    let w = fits_so k word (drop (size k) text) h in
    record {
      chunks = spelled k word ∷ l.chunks;
      spells = ap (λ r. word ++ r) l.spells ∙ take-append-drop (size k) text;
      stand = ((w.0, subst (λ r. Follows k word r) (sym l.spells) w.1), l.stand);
      kinds = λ at. ap (λ ks. k ∷ ks) (l.kinds (at + length word));
    }

laid_then : (go : List Kind → List ℕ → Bool) → ((ks : List Kind) (text : List ℕ) → go ks text ≡ true → IsLaid ks text) → (ks : List Kind) (text : List ℕ) → token_then go ks text ≡ true → IsLaid ks text
laid_then go all [] text h = absurd (false≢true h)
laid_then go all (k ∷ ks) text h =
    let here = fits k (take (size k) text) (drop (size k) text) in
    let next = go ks (drop (size k) text) in
    laid_token k ks text (both_left here next h) (all ks (drop (size k) text) (both_right here next h))

chosen : (t : Bool) (f g : Unit {0} → Bool) (P : Type 0) → choose t f g ≡ true → (t ≡ true → f tt ≡ true → P) → (g tt ≡ true → P) → P
chosen true f g P h a b = a refl h
chosen false f g P h a b = b h

pub laid : (n : ℕ) (ks : List Kind) (text : List ℕ) → is_laid n ks text ≡ true → IsLaid ks text
laid zero ks text h = absurd (false≢true h)
laid (suc n) [] [] h = record { chunks = []; spells = refl; stand = tt; kinds = λ at. refl }
laid (suc n) (k ∷ ks) [] h = absurd (false≢true h)
laid (suc n) ks (b ∷ text) h = chosen (is_blank b) (λ u. is_laid n ks text) (λ u. token_then (λ ks rest. is_laid n ks rest) ks (b ∷ text)) (IsLaid ks (b ∷ text)) h
    (λ blank more. laid_blank b ks text blank (laid n ks text more))
    (λ more. laid_then (λ ks rest. is_laid n ks rest) (λ ks rest. laid n ks rest) ks (b ∷ text) more)
