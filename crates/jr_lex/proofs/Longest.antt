-- One token at most is the longest at the front of a text, and when a token is.
use Rattle.std.proofs.Common.{◌≡◌, ◌⊎◌, ⊎_elim, inl, inr, ℕ, ◌+◌, ◌≤◌, true, false, List, [], ◌∷◌, drop, refl, sym, ◌∙◌, ap, subst, arith, Some}
use Rattle.std.specs.Prelude.{slice_index}
use Rattle.std.proofs.lemmas.Bool.{false≢true}
use Rattle.std.proofs.lemmas.Bool.Decides.{nat_tests}
use Rattle.jr_base.specs.Gaps.{is_blank, opens_line_comment, opens_block_comment, IsLineComment, IsBlockComment, IsGap}
use Rattle.jr_base.specs.Identifiers.{is_word_char, WordAt}
use Rattle.jr_base.specs.Literals.{is_quote}
use Rattle.jr_base.specs.Places.{CharAt, CharRun}
use Rattle.jr_base.specs.Tokens.{IsToken, IsLongest, EndsInteger}
use Rattle.jr_base.specs.declared.kind.Kind.{Kind}
use Rattle.jr_base.specs.declared.kind.Kind.TheVariants.{Word, Ident, Int, IntMin, Long, LongMin, Char, Str, Sym}
use Rattle.jr_base.specs.declared.kind.Symbol.{Symbol}
use Rattle.jr_base.proofs.Runs.{char_one, run_longest}
use Rattle.jr_base.proofs.Tables.{keyword_one, symbol_one}
use Rattle.std.specs.Char.{len_utf8}
use Rattle.jr_lex.specs.Items.{HasSymbol}
use Rattle.jr_lex.proofs.CharacterLemmas.{Quoted, quoted_from, chars_one, ends_at_quote}
use Rattle.jr_lex.proofs.Classes.{Letter, Digit, Blank, Single, Double, Sign, kind_class, class_of, class_of_blank, token_class, token_word, integer_token, integer_run}
use Rattle.jr_lex.proofs.ByteLemmas.{le_or_lt}

-- no word goes on at the end of the first len bytes
abbrev pub WordStops : List ℕ → ℕ → Type 0
WordStops text len = (c : ℕ) → CharAt text len c → is_word_char c ≡ false

pub words_le : (text : List ℕ) (m n : ℕ) → WordAt text 0 m → WordStops text m → WordAt text 0 n → n ≤ m
words_le text m n h stop g =
    run_longest h.run stop (subst (λ c. CharRun is_word_char text (0 + len_utf8 c) n) (char_one text 0 g.first h.first g.here h.here) g.run)

-- a character of the rest stands in the text
pub rest_char : (text : List ℕ) (len c : ℕ) → CharAt text len c → CharAt (drop len text) 0 c
rest_char text len c h = record { scalar = h.scalar; rest = h.rest; split = h.split }

pub ends_word : (text : List ℕ) (len : ℕ) → EndsInteger (drop len text) → WordStops text len
ends_word text len h c at = h.whole c (rest_char text len c at)

-- two integers at one front have one length
pub integers_le : (text : List ℕ) (m n : ℕ) (k l : Kind) → kind_class k ≡ Digit → kind_class l ≡ Digit → IsToken text m k → IsToken text n l → n ≤ m
integers_le text m n k l e f h g =
    run_longest (integer_run text m k e h) (ends_word text m (integer_token text m k e h).1) (integer_run text n l f g)

some_same : {A : Type 0} {x y : A} → Some x ≡ Some y → x ≡ y
some_same h = cc

integers_one : (text : List ℕ) (len : ℕ) (k l : Kind) → kind_class k ≡ Digit → kind_class l ≡ Digit → IsToken text len k → IsToken text len l → k ≡ l
integers_one text len k l e f h g = some_same (sym (integer_token text len k e h).0 ∙ (integer_token text len l f g).0)

-- two literals at one front have one length and one value
pub quoted_one : (q : ℕ) (text : List ℕ) (m n : ℕ) (us vs : List ℕ) → is_quote q ≡ true → Quoted q text m us → Quoted q text n vs → (m ≡ n) × (us ≡ vs)
quoted_one q text m n us vs e h g =
    let same = chars_one h.body (ends_at_quote q text h.close e h.closes) g.body (ends_at_quote q text g.close e g.closes) in
    (omega (arith, same.0, h.ends, g.ends), same.1)

unit_same : {u v : ℕ} → u ∷ [] ≡ v ∷ [] → u ≡ v
unit_same h = cc

module _ (text : List ℕ) (len : ℕ) where
  pub token_one : (k l : Kind) → IsToken text len k → IsToken text len l → k ≡ l
  token_one (Word k) (Word l) h g = ap Word (keyword_one k l (sym h.spells ∙ g.spells))
  token_one (Word k) (Ident n) h g = absurd (g.spells.1.free k (sym h.spells))
  token_one (Ident n) (Word k) h g = absurd (h.spells.1.free k (sym g.spells))
  token_one (Ident n) (Ident m) h g = ap Ident (sym h.spells.0 ∙ g.spells.0)
  token_one (Int v) l h g = integers_one text len (Int v) l refl (sym (token_class text len l g) ∙ token_class text len (Int v) h) h g
  token_one IntMin l h g = integers_one text len IntMin l refl (sym (token_class text len l g) ∙ token_class text len IntMin h) h g
  token_one (Long v) l h g = integers_one text len (Long v) l refl (sym (token_class text len l g) ∙ token_class text len (Long v) h) h g
  token_one LongMin l h g = integers_one text len LongMin l refl (sym (token_class text len l g) ∙ token_class text len LongMin h) h g
  token_one (Char u) (Char v) h g = ap Char (unit_same (quoted_one 39 text len len (u ∷ []) (v ∷ []) refl (quoted_from 39 text len (u ∷ []) h.inside h.spells) (quoted_from 39 text len (v ∷ []) g.inside g.spells)).1)
  token_one (Str us) (Str vs) h g = ap Str (quoted_one 34 text len len us vs refl (quoted_from 34 text len us h.inside h.spells) (quoted_from 34 text len vs g.inside g.spells)).1
  token_one (Sym s) (Sym t) h g = ap Sym (symbol_one s t (sym h.spells ∙ g.spells))
  token_one k l h g =
      let a = token_class text len k h in
      let b = token_class text len l g in absurd (let no : kind_class k ≡ kind_class l = sym a ∙ b in cc)

  -- when a token is the longest: a word that no character goes on, an integer, a literal, the longest symbol
  pub word_longest : WordAt text 0 len → WordStops text len → (k : Kind) → kind_class k ≡ Letter → IsToken text len k → IsLongest text len k
  word_longest h stop k e t = record { stands = t; longest = λ other l g. by other l g (token_class text other l g) }
    where
      by : (other : ℕ) (l : Kind) → IsToken text other l → class_of (slice_index text 0) ≡ kind_class l → other ≤ len
      by other l g c = words_le text len other h stop (token_word text other l (sym c ∙ (token_class text len k t ∙ e)) g)

  pub integer_longest : (k : Kind) → kind_class k ≡ Digit → IsToken text len k → IsLongest text len k
  integer_longest k e t = record {
    stands = t;
    longest = λ other l g. integers_le text len other k l e (sym (token_class text other l g) ∙ (token_class text len k t ∙ e)) t g;
  }

  pub char_longest : (u : ℕ) → IsToken text len (Char u) → IsLongest text len (Char u)
  char_longest u t = record { stands = t; longest = λ other l g. by other l g (sym (token_class text other l g) ∙ token_class text len (Char u) t) }
    where
      by : (other : ℕ) (l : Kind) → IsToken text other l → kind_class l ≡ Single → other ≤ len
      by other (Char v) g e = omega (arith, (quoted_one 39 text len other (u ∷ []) (v ∷ []) refl (quoted_from 39 text len (u ∷ []) t.inside t.spells) (quoted_from 39 text other (v ∷ []) g.inside g.spells)).0)
      by other l g e = absurd (let no : kind_class l ≡ Single = e in cc)

  pub string_longest : (us : List ℕ) → IsToken text len (Str us) → IsLongest text len (Str us)
  string_longest us t = record { stands = t; longest = λ other l g. by other l g (sym (token_class text other l g) ∙ token_class text len (Str us) t) }
    where
      by : (other : ℕ) (l : Kind) → IsToken text other l → kind_class l ≡ Double → other ≤ len
      by other (Str vs) g e = omega (arith, (quoted_one 34 text len other us vs refl (quoted_from 34 text len us t.inside t.spells) (quoted_from 34 text other vs g.inside g.spells)).0)
      by other l g e = absurd (let no : kind_class l ≡ Double = e in cc)

  pub symbol_longest : (s : Symbol) → IsToken text len (Sym s) → ((other : ℕ) (r : Symbol) → HasSymbol text other r → other ≤ len) → IsLongest text len (Sym s)
  symbol_longest s t most = record { stands = t; longest = λ other l g. by other l g (sym (token_class text other l g) ∙ token_class text len (Sym s) t) }
    where
      by : (other : ℕ) (l : Kind) → IsToken text other l → kind_class l ≡ Sign → other ≤ len
      by other (Sym r) g e = most other r (record { inside = g.inside; spells = g.spells })
      by other l g e = absurd (let no : kind_class l ≡ Sign = e in cc)

-- gaps
slash_sign : (b : ℕ) → b ≡ 47 → class_of b ≡ Sign
slash_sign b h = rw h refl

pub line_opens : (text : List ℕ) → opens_line_comment text ≡ true → slice_index text 0 ≡ 47
line_opens text h = grind (arith, nat_tests)

pub block_opens : (text : List ℕ) → opens_block_comment text ≡ true → slice_index text 0 ≡ 47
block_opens text h = grind (arith, nat_tests)

pub line_or_block : (text : List ℕ) → opens_line_comment text ≡ true → opens_block_comment text ≡ true → ⊥
line_or_block text l b = grind (arith, nat_tests)

abbrev pub OpensComment : List ℕ → Type 0
OpensComment text = (opens_line_comment text ≡ true) ⊎ (opens_block_comment text ≡ true)

pub comment_sign : (text : List ℕ) → OpensComment text → class_of (slice_index text 0) ≡ Sign
comment_sign text c = ⊎_elim (λ l. slash_sign (slice_index text 0) (line_opens text l)) (λ b. slash_sign (slice_index text 0) (block_opens text b)) c

pub no_comment : (text : List ℕ) (len : ℕ) (k : Kind) → OpensComment text → IsToken text len k → ⊥
no_comment text len (Sym s) c h = ⊎_elim (λ l. false≢true (sym h.apart.no_line ∙ l)) (λ b. false≢true (sym h.apart.no_block ∙ b)) c
no_comment text len k c h = let a = token_class text len k h in let b = comment_sign text c in absurd (let no : kind_class k ≡ Sign = sym a ∙ b in cc)

pub no_blank : (text : List ℕ) (len : ℕ) (k : Kind) → is_blank (slice_index text 0) ≡ true → IsToken text len k → ⊥
no_blank text len k h t = by k (sym (token_class text len k t) ∙ class_of_blank (slice_index text 0) h)
  where
    by : (k : Kind) → kind_class k ≡ Blank → ⊥
    by (Sym s) e = absurd (let no : Sign ≡ Blank = e in cc)
    by k e = absurd (let no : kind_class k ≡ Blank = e in cc)

pub gap_or_token : (text : List ℕ) (m n : ℕ) (k : Kind) → IsGap text m → IsToken text n k → ⊥
gap_or_token text m n k g t = ⊎_elim (λ b. no_blank text n k b.blank t) (⊎_elim (λ l. no_comment text n k (inl l.opens) t) (λ b. no_comment text n k (inr b.opens) t)) g

pub comment_not_blank : (text : List ℕ) → OpensComment text → is_blank (slice_index text 0) ≡ true → ⊥
comment_not_blank text c b = let s = comment_sign text c in let w = class_of_blank (slice_index text 0) b in absurd (let no : Sign ≡ Blank = sym s ∙ w in cc)

lines_le : (text : List ℕ) (m n : ℕ) → IsLineComment text m → IsLineComment text n → n ≤ m
lines_le text m n h g = ⊎_elim (λ l. l) (λ l. absurd (false≢true (sym (g.free m h.some l) ∙ h.ends (omega (arith, g.inside))))) (le_or_lt n m)

blocks_le : (text : List ℕ) (m n : ℕ) → IsBlockComment text m → IsBlockComment text n → n ≤ m
blocks_le text m n h g = ⊎_elim (λ l. omega (arith, h.ends, g.ends)) (λ l. absurd (false≢true (sym (g.first h.close h.after l) ∙ h.closes))) (le_or_lt g.close h.close)

pub gap_one : (text : List ℕ) (m n : ℕ) → IsGap text m → IsGap text n → m ≡ n
gap_one text m n (inl h) (inl g) = h.one ∙ sym g.one
gap_one text m n (inl h) (inr (inl g)) = absurd (comment_not_blank text (inl g.opens) h.blank)
gap_one text m n (inl h) (inr (inr g)) = absurd (comment_not_blank text (inr g.opens) h.blank)
gap_one text m n (inr (inl h)) (inl g) = absurd (comment_not_blank text (inl h.opens) g.blank)
gap_one text m n (inr (inl h)) (inr (inl g)) = omega (arith, lines_le text m n h g, lines_le text n m g h)
gap_one text m n (inr (inl h)) (inr (inr g)) = absurd (line_or_block text h.opens g.opens)
gap_one text m n (inr (inr h)) (inl g) = absurd (comment_not_blank text (inr h.opens) g.blank)
gap_one text m n (inr (inr h)) (inr (inl g)) = absurd (line_or_block text g.opens h.opens)
gap_one text m n (inr (inr h)) (inr (inr g)) = omega (arith, blocks_le text m n h g, blocks_le text n m g h)

pub longest_one : (text : List ℕ) (m n : ℕ) (k l : Kind) → IsLongest text m k → IsLongest text n l → (m ≡ n) × (k ≡ l)
longest_one text m n k l h g =
    let e : m ≡ n = omega (arith, h.longest n l g.stands, g.longest m k h.stands) in
    (e, token_one text m k l h.stands (subst (λ x. IsToken text x l) (sym e) g.stands))
