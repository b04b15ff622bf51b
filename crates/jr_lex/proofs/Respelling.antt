-- A text in which identifiers are spelled otherwise reads as the same tokens with those replaced.
use Rattle.std.proofs.Common.{◌≡◌, ◌⊎◌, ⊎_elim, inl, inr, ℕ, ◌+◌, ◌<◌, ◌≤◌, Bool, true, false, ◌||◌, ◌&&◌, ◌==◌, lit<, List, [], ◌∷◌, ◌++◌, length, take, drop, refl, sym, ◌∙◌, ap, subst, arith, length-drop, length-append, append_assoc}
use Rattle.std.specs.Prelude.{slice_index}
use Rattle.std.specs.Char.{is_ascii_digit, len_utf8}
use Rattle.std.specs.List.{list_all}
use Rattle.std.specs.Str.{IsUtf8}
use Rattle.std.proofs.Math.Seq.{take-append_seam, drop-append_seam}
use Rattle.std.proofs.lemmas.Bool.{eqb-true}
use Rattle.std.proofs.lemmas.Bool.Decides.{nat_tests}
use Rattle.std.proofs.lemmas.List.{append-nil, take-append-drop, length-take-le, get_or-append-add}
use Rattle.jr_base.specs.Gaps.{is_blank, is_line_end, opens_line_comment, opens_block_comment, IsLineComment, IsGap}
use Rattle.jr_base.specs.Identifiers.{is_start_char, is_word_char, WordAt, IsIdentifier}
use Rattle.jr_base.specs.Places.{CharAt}
use Rattle.jr_base.specs.Spellings.{symbol_text}
use Rattle.jr_base.specs.Tokens.{Spells, IsApart, IsToken, IsLongest, EndsInteger, StartsSymbol, opens_fraction}
use Rattle.jr_base.specs.declared.kind.Kind.{Kind}
use Rattle.jr_base.specs.declared.kind.Kind.TheVariants.{Word, Ident, Int, IntMin, Long, LongMin, Char, Str, Sym}
use Rattle.jr_base.specs.declared.kind.Symbol.{Symbol}
use Rattle.jr_base.proofs.Runs.{run_more, char_inside}
use lib.Utf8.{encode}
use Rattle.std.specs.Prelude.{encode_utf8_all}
use Rattle.std.proofs.lemmas.Str.{encode_same, length-encode, len_utf8_bounds}
use Rattle.unicode_ident.specs.Ident.{is_xid_start, is_xid_continue}
use Rattle.unicode_ident.proofs.IdentLemmas.{is_xid_start-is_xid_continue, is_xid_continue-ascii}
use Rattle.jr_lex.specs.Items.{HasSymbol}
use Rattle.jr_lex.proofs.Classes.{Letter, Digit, Blank, Sign, kind_class, class_of, class_of_digit, class_of_blank, class_of_sign, word_class, token_word}
use Rattle.jr_lex.proofs.Fronts.{char_front, index_same, word_front}
use Rattle.jr_lex.proofs.Longest.{WordStops, word_longest, integer_longest, char_longest, string_longest, symbol_longest}
use Rattle.jr_lex.proofs.SpellingTables.{is_sign, symbol_signs}
use Rattle.jr_lex.proofs.ByteLemmas.{both_left, both_right, no_both}

-- each front of the second text that is signs is one of the first
abbrev Signs : List ℕ → List ℕ → Type 0
Signs a b = (s t : List ℕ) → list_all is_sign s ≡ true → b ≡ s ++ t → (u : List ℕ) × (a ≡ s ++ u)

-- what stands before the first text may stand before the second
pub record Alike (a b : List ℕ) : Type 0 where
  pub first : (slice_index b 0 ≡ slice_index a 0) ⊎ ((class_of (slice_index a 0) ≡ Letter) × (class_of (slice_index b 0) ≡ Letter))
  pub some : 0 < length b → 0 < length a
  pub chars : (c : ℕ) → CharAt b 0 c → is_word_char c ≡ true → (d : ℕ) × CharAt a 0 d × (is_word_char d ≡ true)
  pub signs : Signs a b

pub alike_same : (a : List ℕ) → Alike a a
alike_same a = record { first = inl refl; some = λ l. l; chars = λ c h w. (c, h, w); signs = λ s t h e. (t, e) }

-- the text begins as an identifier does
pub record Begins (t : List ℕ) : Type 0 where
  pub char : ℕ
  pub here : CharAt t 0 char
  pub starts : is_start_char char ≡ true
  pub class : class_of (slice_index t 0) ≡ Letter
  pub some : 0 < length t

start_goes_on : (c : ℕ) → is_start_char c ≡ true → is_word_char c ≡ true
start_goes_on c h = by (is_xid_start c) refl
  where
    low_line : is_word_char 95 ≡ true
    low_line = rw (is_xid_continue-ascii 95 (lit< tt)) refl

    dollar : (x y : Bool) → y ≡ true → (x || y) ≡ true
    dollar true y e = refl
    dollar false y e = e

    other : (b : Bool) → (c == 95) ≡ b → ((c == 95) || (c == 36)) ≡ true → is_word_char c ≡ true
    other true e k = subst (λ x. is_word_char x ≡ true) (sym (eqb-true c 95 e)) low_line
    other false e k = dollar (is_xid_continue c) (c == 36) (rw e at k)

    by : (b : Bool) → is_xid_start c ≡ b → is_word_char c ≡ true
    by true e = rw (is_xid_start-is_xid_continue c e) refl
    by false e = other (c == 95) refl (rw e at h)

not_letter_sign : (b : ℕ) → is_sign b ≡ true → class_of b ≡ Letter → ⊥
not_letter_sign b h e = let s = class_of_sign b h in absurd (let no : Sign ≡ Letter = sym s ∙ e in cc)

head_same : {x y : ℕ} {xs ys : List ℕ} → x ∷ xs ≡ y ∷ ys → x ≡ y
head_same h = cc

tail_same : {x y : ℕ} {xs ys : List ℕ} → x ∷ xs ≡ y ∷ ys → xs ≡ ys
tail_same h = cc

pub alike_begins : (a b : List ℕ) → Begins a → Begins b → Alike a b
alike_begins a b p q = record {
  first = inr (p.class, q.class);
  some = λ l. p.some;
  chars = λ c h w. (p.char, p.here, start_goes_on p.char p.starts);
  signs = no_signs;
}
  where
    no_signs : Signs a b
    no_signs [] t h e = (a, refl)
    no_signs (x ∷ s) t h e =
        let read : slice_index b 0 ≡ x = ap (λ l. slice_index l 0) e in
        absurd (not_letter_sign x (both_left (is_sign x) (list_all is_sign s) h) (sym (ap class_of read) ∙ q.class))

signs_behind : (w a b : List ℕ) → Signs a b → Signs (w ++ a) (w ++ b)
signs_behind [] a b f s t h e = f s t h e
signs_behind (x ∷ w) a b f [] t h e = (x ∷ (w ++ a), refl)
signs_behind (x ∷ w) a b f (y ∷ s) t h e =
    let rest = signs_behind w a b f s t (both_right (is_sign y) (list_all is_sign s) h) (tail_same e) in
    (rest.0, (let p = head_same e in let q = rest.1 in cc))

-- a character that begins a text that is not empty ends in it
first_inside : (w b : List ℕ) (c : ℕ) → IsUtf8 w → 0 < length w → CharAt (w ++ b) 0 c → len_utf8 c ≤ length w
first_inside w b c u some h = by u.0 u.1.1
  where
    by : (cs : List ℕ) → encode_utf8_all cs ≡ w → len_utf8 c ≤ length w
    by [] e = absurd (omega (arith, ap length e))
    by (d ∷ cs) e =
        let whole : encode d ++ (encode_utf8_all cs ++ b) ≡ w ++ b = sym (append_assoc (encode d) (encode_utf8_all cs) b) ∙ ap (λ x. x ++ b) e in
        let same : c ≡ d = (encode_same c d h.rest (encode_utf8_all cs ++ b) (sym h.split ∙ sym whole)).0 in
        omega (arith, ap length e, length-append (encode d) (encode_utf8_all cs), length-encode d, ap len_utf8 same)

pub alike_behind : (w a b : List ℕ) → IsUtf8 w → Alike a b → Alike (w ++ a) (w ++ b)
alike_behind [] a b u h = h
alike_behind (x ∷ w) a b u h = record {
  first = inl refl;
  some = λ l. omega arith;
  chars = λ c k y. (c, char_front (x ∷ w) b a 0 c (omega (arith, first_inside (x ∷ w) b c u (omega arith) k)) k, y);
  signs = signs_behind (x ∷ w) a b h.signs;
}

pub two : (f : ℕ → ℕ → Bool) (x y p q : ℕ) → x ≡ p → y ≡ q → f x y ≡ f p q
two f x y p q e g = ap (λ z. f z y) e ∙ ap (f p) g

pub seam : (w x : List ℕ) → slice_index (w ++ x) (length w) ≡ slice_index x 0
seam w x = ap (slice_index (w ++ x)) (let z : length w ≡ length w + 0 = omega arith in z) ∙ get_or-append-add w x 0 0

line_blank : (b : ℕ) → is_line_end b ≡ true → is_blank b ≡ true
line_blank b h = grind (arith, nat_tests)

module _ (w a b : List ℕ) where
  at : (i : ℕ) → i < length w → slice_index (w ++ b) i ≡ slice_index (w ++ a) i
  at i l = index_same w b a i l

  -- a gap before one text is one before another, where behind a line comment a line ends there too
  pub gap_moved : (IsLineComment (w ++ a) (length w) → 0 < length b → is_line_end (slice_index b 0) ≡ true) → IsGap (w ++ a) (length w) → IsGap (w ++ b) (length w)
  gap_moved line g = ⊎_elim
      (λ h. inl (record { blank = ap is_blank (at 0 (omega (arith, h.one))) ∙ h.blank; one = h.one }))
      (⊎_elim
      (λ h. inr (inl (record {
        opens = two (λ x y. (x == 47) && (y == 47)) _ _ _ _ (at 0 (omega (arith, h.some))) (at 1 (omega (arith, h.some))) ∙ h.opens;
        some = h.some;
        inside = omega (arith, length-append w b);
        free = λ k p q. ap is_line_end (at k q) ∙ h.free k p q;
        ends = λ l. ap is_line_end (seam w b) ∙ line h (omega (arith, length-append w b));
      })))
      (λ h. inr (inr (record {
        opens = two (λ x y. (x == 47) && (y == 42)) _ _ _ _ (at 0 (omega (arith, h.after, h.ends))) (at 1 (omega (arith, h.after, h.ends))) ∙ h.opens;
        close = h.close;
        after = h.after;
        closes = two (λ x y. (x == 42) && (y == 47)) _ _ _ _ (at h.close (omega (arith, h.ends))) (at (h.close + 1) (omega (arith, h.ends))) ∙ h.closes;
        first = λ k p q. two (λ x y. (x == 42) && (y == 47)) _ _ _ _ (at k (omega (arith, h.ends))) (at (k + 1) (omega (arith, h.ends))) ∙ h.first k p q;
        ends = h.ends;
      }))))
      g

module _ (w a b : List ℕ) (alike : Alike a b) where
  line_kept : is_line_end (slice_index a 0) ≡ true → is_line_end (slice_index b 0) ≡ true
  line_kept h = ⊎_elim (λ e. ap is_line_end e ∙ h)
      (λ c. absurd (let s = class_of_blank (slice_index a 0) (line_blank (slice_index a 0) h) in let no : Blank ≡ Letter = sym s ∙ c.0 in cc)) alike.first

  pub gap_kept : IsGap (w ++ a) (length w) → IsGap (w ++ b) (length w)
  gap_kept g = gap_moved w a b (λ h l. line_kept (sym (ap is_line_end (seam w a)) ∙ h.ends (omega (arith, length-append w a, alike.some l)))) g

  ends_kept : EndsInteger a → EndsInteger b
  ends_kept h = record {
    whole = λ c k. by c k (is_word_char c) refl;
    no_point = λ e. ⊎_elim (λ f. h.no_point (sym f ∙ e)) (λ f. let s = sym (ap class_of e) ∙ f.1 in absurd (let no : Sign ≡ Letter = s in cc)) alike.first;
  }
    where
      by : (c : ℕ) → CharAt b 0 c → (v : Bool) → is_word_char c ≡ v → is_word_char c ≡ false
      by c k false e = e
      by c k true e = let d = alike.chars c k e in absurd (no_both d.2 (h.whole d.0 d.1))

  second : (v : List ℕ) → 0 < length v → (class_of (slice_index (v ++ b) 1) ≡ Letter → ⊥) → slice_index (v ++ a) 1 ≡ slice_index (v ++ b) 1
  second [] l other = absurd (omega arith)
  second (x ∷ []) l other = ⊎_elim (λ e. sym e) (λ c. absurd (other c.1)) alike.first
  second (x ∷ y ∷ v) l other = refl

  same_second : 0 < length w → (f : ℕ → ℕ → Bool) → (class_of (slice_index (w ++ b) 1) ≡ Letter → ⊥) → f (slice_index (w ++ a) 0) (slice_index (w ++ a) 1) ≡ f (slice_index (w ++ b) 0) (slice_index (w ++ b) 1)
  same_second l f other = two f _ _ _ _ (sym (at w a b 0 l)) (second w l other)

  byte_class : (x y : ℕ) → x ≡ y → class_of y ≡ Sign → class_of x ≡ Letter → ⊥
  byte_class x y e s c = absurd (let no : Sign ≡ Letter = sym s ∙ (sym (ap class_of e) ∙ c) in cc)

  starts_kept : 0 < length w → StartsSymbol (w ++ a) → StartsSymbol (w ++ b)
  starts_kept l h = record {
    no_line = line (opens_line_comment (w ++ b)) refl;
    no_block = block (opens_block_comment (w ++ b)) refl;
    no_fraction = fraction (opens_fraction (w ++ b)) refl;
  }
    where
      line : (v : Bool) → opens_line_comment (w ++ b) ≡ v → opens_line_comment (w ++ b) ≡ false
      line false e = e
      line true e = absurd (no_both (same_second l (λ x y. (x == 47) && (y == 47)) (byte_class _ 47 (eqb-true _ 47 (both_right (slice_index (w ++ b) 0 == 47) (slice_index (w ++ b) 1 == 47) e)) refl) ∙ e) h.no_line)

      block : (v : Bool) → opens_block_comment (w ++ b) ≡ v → opens_block_comment (w ++ b) ≡ false
      block false e = e
      block true e = absurd (no_both (same_second l (λ x y. (x == 47) && (y == 42)) (byte_class _ 42 (eqb-true _ 42 (both_right (slice_index (w ++ b) 0 == 47) (slice_index (w ++ b) 1 == 42) e)) refl) ∙ e) h.no_block)

      digit : is_ascii_digit (slice_index (w ++ b) 1) ≡ true → class_of (slice_index (w ++ b) 1) ≡ Letter → ⊥
      digit d c = let s = class_of_digit (slice_index (w ++ b) 1) d in absurd (let no : Digit ≡ Letter = sym s ∙ c in cc)

      fraction : (v : Bool) → opens_fraction (w ++ b) ≡ v → opens_fraction (w ++ b) ≡ false
      fraction false e = e
      fraction true e = absurd (no_both (same_second l (λ x y. (x == 46) && is_ascii_digit y) (digit (both_right (slice_index (w ++ b) 0 == 46) (is_ascii_digit (slice_index (w ++ b) 1)) e)) ∙ e) h.no_fraction)

  apart_kept : 0 < length w → (k : Kind) → IsApart k (w ++ a) (length w) → IsApart k (w ++ b) (length w)
  apart_kept l (Int v) h = subst EndsInteger (sym (drop-append_seam w b)) (ends_kept (subst EndsInteger (drop-append_seam w a) h))
  apart_kept l IntMin h = subst EndsInteger (sym (drop-append_seam w b)) (ends_kept (subst EndsInteger (drop-append_seam w a) h))
  apart_kept l (Long v) h = subst EndsInteger (sym (drop-append_seam w b)) (ends_kept (subst EndsInteger (drop-append_seam w a) h))
  apart_kept l LongMin h = subst EndsInteger (sym (drop-append_seam w b)) (ends_kept (subst EndsInteger (drop-append_seam w a) h))
  apart_kept l (Sym s) h = starts_kept l h
  apart_kept l (Word k) h = tt
  apart_kept l (Ident n) h = tt
  apart_kept l (Char u) h = tt
  apart_kept l (Str us) h = tt

  token_kept : 0 < length w → (k : Kind) → IsToken (w ++ a) (length w) k → IsToken (w ++ b) (length w) k
  token_kept l k t = record {
    inside = omega (arith, length-append w b);
    spells = subst (Spells k) (take-append_seam w a ∙ sym (take-append_seam w b)) t.spells;
    apart = apart_kept l k t.apart;
  }

  -- what a word before the first text does not go on with, it does not before the second
  stops_kept : (v : List ℕ) → WordStops (w ++ a) (length w) → WordStops (v ++ b) (length v)
  stops_kept v h c k = by (is_word_char c) refl
    where
      here : CharAt b 0 c
      here = record { scalar = k.scalar; rest = k.rest; split = sym (drop-append_seam v b) ∙ k.split }

      by : (x : Bool) → is_word_char c ≡ x → is_word_char c ≡ false
      by false e = e
      by true e =
          let d = alike.chars c here e in
          absurd (no_both d.2 (h d.0 (record { scalar = d.1.scalar; rest = d.1.rest; split = drop-append_seam w a ∙ d.1.split })))

  signs_kept : (len : ℕ) (r : Symbol) → HasSymbol (w ++ b) len r → HasSymbol (w ++ a) len r
  signs_kept len r h =
      let s = symbol_text r in
      let cut : w ++ b ≡ s ++ drop len (w ++ b) = sym (take-append-drop len (w ++ b)) ∙ ap (λ x. x ++ drop len (w ++ b)) h.spells in
      let other = signs_behind w a b alike.signs s (drop len (w ++ b)) (symbol_signs r) cut in
      let wide : len ≡ length s = sym (length-take-le len (w ++ b) h.inside) ∙ ap length h.spells in
      record {
        inside = omega (arith, ap length other.1, length-append s other.0);
        spells = ap (λ n. take n (w ++ a)) wide ∙ (ap (take (length s)) other.1 ∙ take-append_seam s other.0);
      }

-- a word that is the longest token is one that no character goes on
pub stops_of : (text : List ℕ) (len : ℕ) (k : Kind) → kind_class k ≡ Letter → IsLongest text len k → WordStops text len
stops_of text len k e t c h = by (is_word_char c) refl
  where
    n : ℕ
    n = len + len_utf8 c

    word : is_word_char c ≡ true → WordAt text 0 (len + len_utf8 c)
    word y = let v = token_word text len k e t.stands in record { first = v.first; here = v.here; starts = v.starts; run = run_more v.run h y }

    inside : len + len_utf8 c ≤ length text
    inside = omega (arith, length-drop len text, ap length h.split, length-append (encode c) h.rest, length-encode c, len_utf8_bounds c)

    longer : (l : Kind) → Spells l (take (len + len_utf8 c) text) → IsApart l text (len + len_utf8 c) → ⊥
    longer l s p = omega (arith, t.longest (len + len_utf8 c) l (record { inside = inside; spells = s; apart = p }), len_utf8_bounds c)

    alone : is_word_char c ≡ true → IsIdentifier (take (len + len_utf8 c) text)
    alone y =
        let v = take (len + len_utf8 c) text in
        let size : length v ≡ len + len_utf8 c = length-take-le (len + len_utf8 c) text inside in
        let front : WordAt (v ++ drop (len + len_utf8 c) text) 0 (len + len_utf8 c) = subst (λ x. WordAt x 0 (len + len_utf8 c)) (sym (take-append-drop (len + len_utf8 c) text)) (word y) in
        let own : WordAt v 0 (length v) = subst (λ x. WordAt x 0 (length v)) (append-nil v) (subst (λ x. WordAt (v ++ []) 0 x) (sym size) (word_front v (drop (len + len_utf8 c) text) [] (len + len_utf8 c) (omega arith) front)) in
        record { word = own; free = λ j q. longer (Word j) (sym q) tt }

    by : (x : Bool) → is_word_char c ≡ x → is_word_char c ≡ false
    by false y = y
    by true y = absurd (longer (Ident (take (len + len_utf8 c) text)) (refl, alone y) tt)

module _ (w a b : List ℕ) (alike : Alike a b) (some : 0 < length w) where
  pub longest_kept : (k : Kind) → IsLongest (w ++ a) (length w) k → IsLongest (w ++ b) (length w) k
  longest_kept (Word k) t = let n = token_kept w a b alike some (Word k) t.stands in
      word_longest (w ++ b) (length w) (token_word (w ++ b) (length w) (Word k) refl n) (stops_kept w a b alike w (stops_of (w ++ a) (length w) (Word k) refl t)) (Word k) refl n
  longest_kept (Ident k) t = let n = token_kept w a b alike some (Ident k) t.stands in
      word_longest (w ++ b) (length w) (token_word (w ++ b) (length w) (Ident k) refl n) (stops_kept w a b alike w (stops_of (w ++ a) (length w) (Ident k) refl t)) (Ident k) refl n
  longest_kept (Int v) t = integer_longest (w ++ b) (length w) (Int v) refl (token_kept w a b alike some (Int v) t.stands)
  longest_kept IntMin t = integer_longest (w ++ b) (length w) IntMin refl (token_kept w a b alike some IntMin t.stands)
  longest_kept (Long v) t = integer_longest (w ++ b) (length w) (Long v) refl (token_kept w a b alike some (Long v) t.stands)
  longest_kept LongMin t = integer_longest (w ++ b) (length w) LongMin refl (token_kept w a b alike some LongMin t.stands)
  longest_kept (Char u) t = char_longest (w ++ b) (length w) u (token_kept w a b alike some (Char u) t.stands)
  longest_kept (Str us) t = string_longest (w ++ b) (length w) us (token_kept w a b alike some (Str us) t.stands)
  longest_kept (Sym s) t = symbol_longest (w ++ b) (length w) s (token_kept w a b alike some (Sym s) t.stands) (λ other r h. most other r (signs_kept w a b alike other r h))
    where
      most : (other : ℕ) (r : Symbol) → HasSymbol (w ++ a) other r → other ≤ length w
      most other r h = t.longest other (Sym r) (record { inside = h.inside; spells = h.spells; apart = t.stands.apart })

  -- an identifier may stand where another stood
  pub longest_renamed : (name n : List ℕ) → IsIdentifier name → IsLongest (w ++ a) (length w) (Ident n) → IsLongest (name ++ b) (length name) (Ident name)
  longest_renamed name n i t =
      let front : WordAt (name ++ b) 0 (length name) = word_front name [] b (length name) (omega arith) (subst (λ x. WordAt x 0 (length name)) (sym (append-nil name)) i.word) in
      let token : IsToken (name ++ b) (length name) (Ident name) = record {
        inside = omega (arith, length-append name b);
        spells = (take-append_seam name b, subst IsIdentifier (sym (take-append_seam name b)) i);
        apart = tt;
      } in
      word_longest (name ++ b) (length name) front (stops_kept w a b alike name (stops_of (w ++ a) (length w) (Ident n) refl t)) (Ident name) refl token

-- a text that begins with a word begins as an identifier does
pub begins_of : (text : List ℕ) (len : ℕ) → WordAt text 0 len → Begins text
begins_of text len h = record { char = h.first; here = h.here; starts = h.starts; class = word_class text len h; some = char_inside text 0 h.first h.here }
