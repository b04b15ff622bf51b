-- The first byte of a token says of which kind it is.
use Rattle.std.proofs.Common.{◌≡◌, ℕ, zero, suc, ◌+◌, ◌-◌, ◌<◌, ◌≤◌, Bool, true, false, cond, ◌||◌, ◌==◌, nat_lt, List, [], ◌∷◌, ◌++◌, length, take, drop, refl, sym, ◌∙◌, ap, subst, arith, Some}
use Rattle.std.specs.Prelude.{slice_index}
use Rattle.std.specs.Char.{is_ascii_alphabetic, is_ascii_alphanumeric, is_ascii_digit, len_utf8}
use Rattle.std.proofs.lemmas.Bool.Decides.{nat_tests}
use Rattle.std.proofs.lemmas.List.{append-nil, take-append-drop, get_or-take, length-take-le, at_drop_more}
use Rattle.std.proofs.lemmas.Str.{encode_ascii, len_utf8_ascii, len_utf8_bounds}
use Rattle.unicode_ident.proofs.IdentLemmas.{is_xid_start-ascii, is_xid_continue-ascii}
use Rattle.jr_base.specs.Gaps.{is_blank}
use Rattle.jr_base.specs.Identifiers.{is_start_char, is_word_char, WordAt, IsIdentifier}
use Rattle.jr_base.specs.Numerals.{integer_of}
use Rattle.jr_base.specs.Places.{CharAt, CharRun, none, more}
use Rattle.jr_base.specs.Spellings.{keyword_text, symbol_text}
use Rattle.jr_base.specs.Tokens.{IsToken, EndsInteger}
use Rattle.jr_base.specs.declared.kind.Keyword.{Keyword}
use Rattle.jr_base.specs.declared.kind.Kind.{Kind}
use Rattle.jr_base.specs.declared.kind.Kind.TheVariants.{Word, Ident, Int, IntMin, Long, LongMin, Char, Str, Sym}
use Rattle.jr_base.specs.declared.kind.Symbol.{Symbol}
use Rattle.jr_base.proofs.Runs.{run_le}
use Rattle.jr_lex.proofs.CharacterLemmas.{char_byte, quoted_from}
use Rattle.jr_lex.proofs.Fronts.{word_front}
use Rattle.jr_lex.proofs.IntegerLemmas.{integer_alnum, integer_first}
use Rattle.jr_lex.proofs.SpellingTables.{is_sign, keyword_some, keyword_letters, symbol_some, symbol_signs}
use Rattle.jr_lex.proofs.ByteLemmas.{all_each}

pub data Class : Type 0 where
  Letter : Class
  Digit : Class
  Blank : Class
  Single : Class
  Double : Class
  Sign : Class

abbrev pub is_letter : ℕ → Bool
is_letter b = cond (nat_lt b 128) ((is_ascii_alphabetic b || (b == 95)) || (b == 36)) true

abbrev pub class_of : ℕ → Class
class_of b = cond (is_letter b) Letter (cond (is_ascii_digit b) Digit (cond (is_blank b) Blank (cond (b == 39) Single (cond (b == 34) Double Sign))))

abbrev pub kind_class : Kind → Class
kind_class (Word k) = Letter
kind_class (Ident n) = Letter
kind_class (Int v) = Digit
kind_class IntMin = Digit
kind_class (Long v) = Digit
kind_class LongMin = Digit
kind_class (Char u) = Single
kind_class (Str us) = Double
kind_class (Sym s) = Sign

start_ascii : (c : ℕ) → c < 128 → is_start_char c ≡ ((is_ascii_alphabetic c || (c == 95)) || (c == 36))
start_ascii c l = rw (is_xid_start-ascii c l) (assoc (is_ascii_alphabetic c) (c == 95) (c == 36))
  where
    assoc : (x y z : Bool) → (x || (y || z)) ≡ ((x || y) || z)
    assoc true y z = refl
    assoc false y z = refl

letter_from_start : (b : ℕ) → (b < 128 → is_start_char b ≡ true) → is_letter b ≡ true
letter_from_start b h = by (nat_lt b 128) refl
  where
    by : (t : Bool) → nat_lt b 128 ≡ t → is_letter b ≡ true
    by true e = let l : b < 128 = grind (arith, nat_tests) in rw e (sym (start_ascii b l) ∙ h l)
    by false e = rw e refl

pub class_of_letter : (b : ℕ) → is_letter b ≡ true → class_of b ≡ Letter
class_of_letter b h = rw h refl

pub class_of_digit : (b : ℕ) → is_ascii_digit b ≡ true → class_of b ≡ Digit
class_of_digit b h =
    let no : is_letter b ≡ false = grind (arith, nat_tests) in
    rw (no, h) refl

pub class_of_blank : (b : ℕ) → is_blank b ≡ true → class_of b ≡ Blank
class_of_blank b h =
    let no : is_letter b ≡ false = grind (arith, nat_tests) in
    let neither : is_ascii_digit b ≡ false = grind (arith, nat_tests) in
    rw (no, neither, h) refl

pub class_of_sign : (b : ℕ) → is_sign b ≡ true → class_of b ≡ Sign
class_of_sign b h =
    let a : is_letter b ≡ false = grind (arith, nat_tests) in
    let d : is_ascii_digit b ≡ false = grind (arith, nat_tests) in
    let e : is_blank b ≡ false = grind (arith, nat_tests) in
    let f : (b == 39) ≡ false = grind (arith, nat_tests) in
    let g : (b == 34) ≡ false = grind (arith, nat_tests) in
    rw (a, d, e, f, g) refl

class_at : (b c : ℕ) → b ≡ c → class_of b ≡ class_of c
class_at b c e = ap class_of e

pub word_class : (text : List ℕ) (len : ℕ) → WordAt text 0 len → class_of (slice_index text 0) ≡ Letter
word_class text len h =
    class_of_letter (slice_index text 0) (letter_from_start (slice_index text 0) (λ l. subst (λ c. is_start_char c ≡ true) (char_byte text 0 h.first h.here l) h.starts))

-- an ASCII byte is a character
pub char_of_byte : (text : List ℕ) (place : ℕ) → place < length text → slice_index text place < 128 → CharAt text place (slice_index text place)
char_of_byte text place l a = record {
  scalar = grind (arith, nat_tests);
  rest = drop (place + 1) text;
  split = rw (encode_ascii (slice_index text place) a) (at_drop_more (λ x. x) text place 0 l);
}

alnum_low : (b : ℕ) → is_ascii_alphanumeric b ≡ true → b < 128
alnum_low b h = grind (arith, nat_tests)

-- a letter or a digit goes on an identifier
pub alnum_goes_on : (b : ℕ) → is_ascii_alphanumeric b ≡ true → is_word_char b ≡ true
alnum_goes_on b h = rw (is_xid_continue-ascii b (alnum_low b h), h) refl

run_of_bytes : (text : List ℕ) (n start : ℕ) → start + n ≤ length text → ((i : ℕ) → start ≤ i → i < start + n → is_ascii_alphanumeric (slice_index text i) ≡ true) → CharRun is_word_char text start (start + n)
run_of_bytes text zero start l h = subst (λ e. CharRun is_word_char text start e) (let e : start ≡ start + zero = omega arith in e) none
run_of_bytes text (suc n) start l h =
    let b = slice_index text start in
    let good : is_ascii_alphanumeric b ≡ true = h start (omega arith) (omega arith) in
    let low : b < 128 = alnum_low b good in
    let next : start + len_utf8 b ≡ start + 1 = ap (λ k. start + k) (len_utf8_ascii b low) in
    let rest : CharRun is_word_char text (start + 1) (start + 1 + n) = run_of_bytes text n (start + 1) (omega arith) (λ i p q. h i (omega arith) (omega arith)) in
    let end : start + 1 + n ≡ start + suc n = omega arith in
    more (char_of_byte text start (omega arith) low) (alnum_goes_on b good)
    (subst (λ s. CharRun is_word_char text s (start + suc n)) (sym next) (subst (λ e. CharRun is_word_char text (start + 1) e) end rest))

letter_alnum : (b : ℕ) → is_ascii_alphabetic b ≡ true → is_ascii_alphanumeric b ≡ true
letter_alnum b h = grind (arith, nat_tests)

letter_starts : (b : ℕ) → is_ascii_alphabetic b ≡ true → is_start_char b ≡ true
letter_starts b h =
    let l : b < 128 = grind (arith, nat_tests) in
    start_ascii b l ∙ rw h refl

pub take_first : (text : List ℕ) (len i : ℕ) → i < len → slice_index (take len text) i ≡ slice_index text i
take_first text len i l = get_or-take len text i 0 l

module _ (text : List ℕ) (len : ℕ) where
  keyword_word : (k : Keyword) → IsToken text len (Word k) → WordAt text 0 len
  keyword_word k h =
      let size : length (take len text) ≡ len = length-take-le len text h.inside in
      let wide : length (keyword_text k) ≡ len = sym (ap length h.spells) ∙ size in
      let some : 0 < len = omega (arith, keyword_some k) in
      let letter : (i : ℕ) → i < len → is_ascii_alphabetic (slice_index text i) ≡ true =
      λ i l. subst (λ b. is_ascii_alphabetic b ≡ true) (ap (λ w. slice_index w i) (sym h.spells) ∙ take_first text len i l) (all_each is_ascii_alphabetic (keyword_text k) (keyword_letters k) i (omega arith)) in
      let b = slice_index text 0 in
      let low : b < 128 = alnum_low b (letter_alnum b (letter 0 some)) in
      let next : 0 + len_utf8 b ≡ 1 = omega (arith, len_utf8_ascii b low) in
      let inside : len ≤ length text = h.inside in
      let rest : CharRun is_word_char text 1 (1 + (len - 1)) = run_of_bytes text (len - 1) 1 (omega arith) (λ i p q. letter_alnum (slice_index text i) (letter i (omega arith))) in
      let end : 1 + (len - 1) ≡ len = omega arith in
      record {
        first = b;
        here = char_of_byte text 0 (omega arith) low;
        starts = letter_starts b (letter 0 some);
        run = subst (λ s. CharRun is_word_char text s len) (sym next) (subst (λ e. CharRun is_word_char text 1 e) end rest);
      }

  whole_word : IsIdentifier (take len text) → len ≤ length text → WordAt text 0 len
  whole_word h l =
      let w = take len text in
      let size : length w ≡ len = length-take-le len text l in
      let alone : WordAt (w ++ []) 0 len = subst (λ t. WordAt t 0 len) (sym (append-nil w)) (subst (λ n. WordAt w 0 n) size h.word) in
      subst (λ t. WordAt t 0 len) (take-append-drop len text) (word_front w [] (drop len text) len (omega arith) alone)

  pub name_word : (n : List ℕ) → IsToken text len (Ident n) → WordAt text 0 len
  name_word n h = whole_word h.spells.1 h.inside

  pub token_word : (k : Kind) → kind_class k ≡ Letter → IsToken text len k → WordAt text 0 len
  token_word (Word k) e h = keyword_word k h
  token_word (Ident n) e h = name_word n h
  token_word k e h = absurd (let no : kind_class k ≡ Letter = e in cc)

  -- an integer token is an integer, and ends as one
  pub integer_token : (k : Kind) → kind_class k ≡ Digit → IsToken text len k → (integer_of (take len text) ≡ Some k) × EndsInteger (drop len text)
  integer_token (Int v) e h = (h.spells, h.apart)
  integer_token IntMin e h = (h.spells, h.apart)
  integer_token (Long v) e h = (h.spells, h.apart)
  integer_token LongMin e h = (h.spells, h.apart)
  integer_token k e h = absurd (let no : kind_class k ≡ Digit = e in cc)

  pub integer_bytes : (k : Kind) → kind_class k ≡ Digit → IsToken text len k → (0 < len) × (is_ascii_digit (slice_index text 0) ≡ true)
  integer_bytes k e h =
      let size : length (take len text) ≡ len = length-take-le len text h.inside in
      let f = integer_first (take len text) k (integer_token k e h).0 in
      (omega (arith, f.0), subst (λ b. is_ascii_digit b ≡ true) (take_first text len 0 (omega (arith, f.0))) f.1)

  pub integer_run : (k : Kind) → kind_class k ≡ Digit → IsToken text len k → CharRun is_word_char text 0 len
  integer_run k e h =
      let size : length (take len text) ≡ len = length-take-le len text h.inside in
      let inside : len ≤ length text = h.inside in
      let end : 0 + len ≡ len = omega arith in
      subst (λ x. CharRun is_word_char text 0 x) end
      (run_of_bytes text len 0 (omega arith) (λ i p q. subst (λ b. is_ascii_alphanumeric b ≡ true) (take_first text len i (omega arith)) (integer_alnum (take len text) k (integer_token k e h).0 i (omega arith))))

  symbol_first : (s : Symbol) → IsToken text len (Sym s) → (0 < len) × (class_of (slice_index text 0) ≡ Sign)
  symbol_first s h =
      let size : length (take len text) ≡ len = length-take-le len text h.inside in
      let wide : length (symbol_text s) ≡ len = sym (ap length h.spells) ∙ size in
      let some : 0 < len = omega (arith, symbol_some s) in
      (some, class_of_sign (slice_index text 0) (subst (λ b. is_sign b ≡ true) (ap (λ w. slice_index w 0) (sym h.spells) ∙ take_first text len 0 some) (all_each is_sign (symbol_text s) (symbol_signs s) 0 (symbol_some s))))

  pub token_class : (k : Kind) → IsToken text len k → class_of (slice_index text 0) ≡ kind_class k
  token_class (Word k) h = word_class text len (keyword_word k h)
  token_class (Ident n) h = word_class text len (name_word n h)
  token_class (Int v) h = class_of_digit (slice_index text 0) (integer_bytes (Int v) refl h).1
  token_class IntMin h = class_of_digit (slice_index text 0) (integer_bytes IntMin refl h).1
  token_class (Long v) h = class_of_digit (slice_index text 0) (integer_bytes (Long v) refl h).1
  token_class LongMin h = class_of_digit (slice_index text 0) (integer_bytes LongMin refl h).1
  token_class (Char u) h = class_at (slice_index text 0) 39 (quoted_from 39 text len (u ∷ []) h.inside h.spells).opens
  token_class (Str us) h = class_at (slice_index text 0) 34 (quoted_from 34 text len us h.inside h.spells).opens
  token_class (Sym s) h = (symbol_first s h).1

  pub token_some : (k : Kind) → IsToken text len k → 0 < len
  token_some (Word k) h = omega (arith, run_le (keyword_word k h).run, len_utf8_bounds (keyword_word k h).first)
  token_some (Ident n) h = omega (arith, run_le (name_word n h).run, len_utf8_bounds (name_word n h).first)
  token_some (Int v) h = (integer_bytes (Int v) refl h).0
  token_some IntMin h = (integer_bytes IntMin refl h).0
  token_some (Long v) h = (integer_bytes (Long v) refl h).0
  token_some LongMin h = (integer_bytes LongMin refl h).0
  token_some (Char u) h = omega (arith, (quoted_from 39 text len (u ∷ []) h.inside h.spells).ends)
  token_some (Str us) h = omega (arith, (quoted_from 34 text len us h.inside h.spells).ends)
  token_some (Sym s) h = (symbol_first s h).0
