-- What stands between two quotes is read in one way.
use Rattle.std.proofs.Common.{◌≡◌, ℕ, ◌+◌, ◌<◌, ◌≤◌, true, false, not, ◌||◌, ◌==◌, List, [], ◌∷◌, ◌++◌, length, get_or, take, drop, refl, sym, ◌∙◌, ap, subst, arith, Option, Some, None, length-drop, append_assoc, eq-eqb}
use Rattle.std.specs.Prelude.{slice_index}
use Rattle.std.specs.Char.{len_utf8}
use Rattle.std.specs.Char.Escape.{encode_utf16}
use Rattle.std.specs.Str.{IsUtf8, IsCharBoundary}
use Rattle.std.proofs.lemmas.Bool.Decides.{nat_tests}
use Rattle.std.proofs.lemmas.List.{append-nil, drop_all, drop-append-le, take-append-drop, get_or-drop, length-take-le}
use Rattle.std.proofs.lemmas.Str.{char_from_byte, len_utf8_bounds, IsCharBoundary-after_ascii}
use Rattle.jr_base.specs.Places.{CharAt}
use Rattle.jr_base.specs.Gaps.{is_line_end}
use Rattle.jr_base.specs.Literals.{Characters, none, plain, escape, is_plain, is_quote, escape_of, IsLiteral}
use Rattle.jr_base.proofs.Runs.{char_one, char_inside, after_char}
use Rattle.jr_lex.proofs.ByteLemmas.{no_both}
use Rattle.jr_lex.proofs.Fronts.{char_front, index_front}
use Rattle.jr_lex.proofs.EscapeLemmas.{some_one, index_inside, escape_front, escape_opens, escape_boundary}

-- the first byte of an ASCII character is the character
pub char_byte : (text : List ℕ) (place c : ℕ) → CharAt text place c → slice_index text place < 128 → c ≡ slice_index text place
char_byte text place c h l =
    let z : place + 0 ≡ place = omega arith in
    let e : get_or (drop place text) 0 0 ≡ get_or text place 0 = get_or-drop place text 0 0 ∙ ap (λ x. get_or text x 0) z in
    let some : 0 < length (drop place text) = omega (arith, length-drop place text, char_inside text place c h) in
    let low : get_or (drop place text) 0 0 < 128 = omega arith in
    char_from_byte (drop place text) h.rest c h.split low some ∙ e

pub drop_first : (text : List ℕ) (place : ℕ) → slice_index (drop place text) 0 ≡ slice_index text place
drop_first text place = get_or-drop place text 0 0 ∙ ap (slice_index text) (let z : place + 0 ≡ place = omega arith in z)

nothing_some : {A : Type 0} {x : A} → Some x ≡ None → ⊥
nothing_some h = cc

pair_left : {a b c d : ℕ} → ◌≡◌ {A = Option (ℕ × ℕ)} (Some (a, b)) (Some (c, d)) → a ≡ c
pair_left h = ap (λ p. p.0) (some_one h)

pair_right : {a b c d : ℕ} → ◌≡◌ {A = Option (ℕ × ℕ)} (Some (a, b)) (Some (c, d)) → b ≡ d
pair_right h = ap (λ p. p.1) (some_one h)

module _ {q : ℕ} {text : List ℕ} where
  pub chars_le : {start end : ℕ} {us : List ℕ} → Characters q text start end us → start ≤ end
  chars_le none = omega arith
  chars_le (plain {c = c} h y r) = omega (arith, chars_le r, len_utf8_bounds c)
  chars_le (escape h r) = omega (arith, chars_le r)

  -- one more character, or one more escape, at the end
  pub chars_plain : {start end c : ℕ} {us : List ℕ} → Characters q text start end us → CharAt text end c → is_plain q c ≡ true → Characters q text start (end + len_utf8 c) (us ++ encode_utf16 c)
  chars_plain {start = start} {end = end} {c = c} none h y = subst (λ xs. Characters q text end (end + len_utf8 c) xs) (append-nil (encode_utf16 c)) (plain h y none)
  chars_plain {start = start} {end = end} {c = c} (plain {c = d} {units = us} g x r) h y =
      subst (λ xs. Characters q text start (end + len_utf8 c) xs) (sym (append_assoc (encode_utf16 d) us (encode_utf16 c))) (plain g x (chars_plain r h y))
  chars_plain (escape g r) h y = escape g (chars_plain r h y)

  pub chars_escape : {start end unit len : ℕ} {us : List ℕ} → Characters q text start end us → escape_of (drop end text) ≡ Some (unit, len) → Characters q text start (end + 1 + len) (us ++ unit ∷ [])
  chars_escape none h = escape h none
  chars_escape {start = start} {end = end} {unit = unit} {len = len} (plain {c = d} {units = us} g x r) h =
      subst (λ xs. Characters q text start (end + 1 + len) xs) (sym (append_assoc (encode_utf16 d) us (unit ∷ []))) (plain g x (chars_escape r h))
  chars_escape (escape g r) h = escape g (chars_escape r h)

  pub chars_boundary : {start end : ℕ} {us : List ℕ} → IsUtf8 text → IsCharBoundary text start → Characters q text start end us → IsCharBoundary text end
  chars_boundary u b none = b
  chars_boundary u b (plain {start = start} {c = c} h y r) = chars_boundary u (after_char text start c u b h) r
  chars_boundary u b (escape {start = start} {unit = unit} {len = len} h r) = chars_boundary u (escape_boundary text start unit len u h) r

  chars_from : {a b end : ℕ} {us : List ℕ} → a ≡ b → Characters q text b end us → Characters q text a end us
  chars_from {end = end} {us = us} e r = subst (λ x. Characters q text x end us) (sym e) r

-- neither a character nor an escape goes on at the place
pub record Ends (q : ℕ) (text : List ℕ) (place : ℕ) : Type 0 where
  pub no_char : (c : ℕ) → CharAt text place c → is_plain q c ≡ false
  pub no_escape : escape_of (drop place text) ≡ None

backslash_not_plain : (q : ℕ) → is_plain q 92 ≡ false
backslash_not_plain q = elim (92 == q) as (λ b. not ((b || true) || false) ≡ false) [ true ↦ refl | false ↦ refl ]

-- an escape begins with no character that stands for itself
escape_not_plain : (q : ℕ) (text : List ℕ) (place c unit len : ℕ) → CharAt text place c → escape_of (drop place text) ≡ Some (unit, len) → is_plain q c ≡ false
escape_not_plain q text place c unit len h e =
    let b : slice_index text place ≡ 92 = sym (drop_first text place) ∙ escape_opens (drop place text) unit len e in
    let low : slice_index text place < 128 = omega arith in
    ap (is_plain q) (char_byte text place c h low ∙ b) ∙ backslash_not_plain q

joined_same : {a b c d : List ℕ} → a ≡ b → c ≡ d → a ++ c ≡ b ++ d
joined_same e f = cc

module _ {q : ℕ} {text : List ℕ} where
  pub chars_one : {start end stop : ℕ} {us vs : List ℕ} → Characters q text start end us → Ends q text end → Characters q text start stop vs → Ends q text stop → (end ≡ stop) × (us ≡ vs)
  chars_one none n none m = (refl, refl)
  chars_one none n (plain g x r) m = absurd (no_both x (n.no_char _ g))
  chars_one none n (escape g r) m = absurd (nothing_some (sym g ∙ n.no_escape))
  chars_one (plain g x r) n none m = absurd (no_both x (m.no_char _ g))
  chars_one (plain {start = start} {c = c} g x r) n (plain {c = d} h y s) m =
      let e = char_one text start c d g h in
      let rest = chars_one r n (chars_from (ap (λ k. start + len_utf8 k) e) s) m in
      (rest.0, joined_same (ap encode_utf16 e) rest.1)
  chars_one (plain {start = start} {c = c} g x r) n (escape {unit = unit} {len = len} h s) m = absurd (no_both x (escape_not_plain q text start c unit len g h))
  chars_one (escape g r) n none m = absurd (nothing_some (sym g ∙ m.no_escape))
  chars_one (escape {start = start} {unit = unit} {len = len} g r) n (plain {c = c} h y s) m = absurd (no_both y (escape_not_plain q text start c unit len h g))
  chars_one (escape {start = start} {unit = unit} {len = len} g r) n (escape {unit = unit'} {len = len'} h s) m =
      let same : ◌≡◌ {A = Option (ℕ × ℕ)} (Some (unit, len)) (Some (unit', len')) = sym g ∙ h in
      let rest = chars_one r n (chars_from (ap (λ k. start + 1 + k) (pair_right same)) s) m in
      (rest.0, (let e = pair_left same in let f = rest.1 in cc))

-- a text with another first byte begins with no escape
no_escape_at : (t : List ℕ) → (slice_index t 0 == 92) ≡ false → escape_of t ≡ None
unfolding escape_of
no_escape_at t h = rw h refl

no_escape_past : escape_of [] ≡ None
unfolding escape_of
no_escape_past = refl

module _ (q : ℕ) (text : List ℕ) (place : ℕ) where
  by_byte : (b : ℕ) → b < 128 → slice_index text place ≡ b → is_plain q b ≡ false → (b == 92) ≡ false → Ends q text place
  by_byte b low e not_plain not_back = record {
    no_char = λ c h. ap (is_plain q) (char_byte text place c h (omega arith) ∙ e) ∙ not_plain;
    no_escape = no_escape_at (drop place text) (ap (λ x. x == 92) (drop_first text place ∙ e) ∙ not_back);
  }

  pub ends_at_quote : is_quote q ≡ true → slice_index text place ≡ q → Ends q text place
  ends_at_quote h e =
      let low : q < 128 = grind (arith, nat_tests) in
      let not_back : (q == 92) ≡ false = grind (arith, nat_tests) in
      let same : (q == q) ≡ true = eq-eqb q q refl in
      let not_plain : is_plain q q ≡ false = rw same refl in
      by_byte q low e not_plain not_back

  pub ends_at_line : is_line_end (slice_index text place) ≡ true → Ends q text place
  ends_at_line h =
      let b = slice_index text place in
      let low : b < 128 = grind (arith, nat_tests) in
      let not_back : (b == 92) ≡ false = grind (arith, nat_tests) in
      by_byte b low refl (line_not_plain b h) not_back
    where
      line_not_plain : (b : ℕ) → is_line_end b ≡ true → is_plain q b ≡ false
      line_not_plain b h = elim ((b == q) || (b == 92)) as (λ x. not (x || is_line_end b) ≡ false) [ true ↦ refl | false ↦ ap not h ]

  pub ends_at_end : length text ≤ place → Ends q text place
  ends_at_end l = record {
    no_char = λ c h. absurd (omega (arith, char_inside text place c h));
    no_escape = ap escape_of (drop_all place text l) ∙ no_escape_past;
  }

  pub ends_at_bad : slice_index text place ≡ 92 → escape_of (drop place text) ≡ None → Ends q text place
  ends_at_bad b e = record {
    no_char = λ c h. ap (is_plain q) (char_byte text place c h (omega arith) ∙ b) ∙ backslash_not_plain q;
    no_escape = e;
  }

-- what stands in the front between quotes does not depend on what follows
pub chars_front : (q : ℕ) (w r s : List ℕ) {start end : ℕ} {us : List ℕ} → end < length w → Characters q (w ++ r) start end us → Characters q (w ++ s) start end us
chars_front q w r s l none = none
chars_front q w r s l (plain {start = start} {c = c} h y k) = plain (char_front w r s start c (omega (arith, chars_le k)) h) y (chars_front q w r s l k)
chars_front q w r s l (escape {start = start} {unit = unit} {len = len} h k) =
    let inside : start + 1 + len < length w = omega (arith, chars_le k) in
    let cut : (x : List ℕ) → drop start (w ++ x) ≡ drop start w ++ x = λ x. drop-append-le start w x (omega arith) in
    let here : escape_of (drop start w ++ r) ≡ Some (unit, len) = ap escape_of (sym (cut r)) ∙ h in
    let there : escape_of (drop start w ++ s) ≡ Some (unit, len) = escape_front (drop start w) r s unit len (omega (arith, length-drop start w)) here in
    escape (ap escape_of (cut s) ∙ there) (chars_front q w r s l k)

-- the text begins with a literal of this length
pub record Quoted (q : ℕ) (text : List ℕ) (len : ℕ) (us : List ℕ) : Type 0 where
  pub opens : slice_index text 0 ≡ q
  pub close : ℕ
  pub body : Characters q text 1 close us
  pub closes : slice_index text close ≡ q
  pub inside : close < length text
  pub ends : len ≡ close + 1

moved_body : (q : ℕ) (a b : List ℕ) {close : ℕ} {us : List ℕ} → a ≡ b → Characters q a 1 close us → Characters q b 1 close us
moved_body q a b {close} {us} e h = subst (λ t. Characters q t 1 close us) e h

pub quoted_from : (q : ℕ) (text : List ℕ) (len : ℕ) (us : List ℕ) → len ≤ length text → IsLiteral q (take len text) us → Quoted q text len us
quoted_from q text len us l h =
    let w = take len text in
    let size : length w ≡ len = length-take-le len text l in
    let whole : w ++ drop len text ≡ text = take-append-drop len text in
    let at : (i : ℕ) → i < len → slice_index w i ≡ slice_index text i = λ i m. sym (index_front w (drop len text) i (omega arith)) ∙ ap (λ t. slice_index t i) whole in
    let some : h.close < len = omega (arith, h.ends) in
    record {
      opens = sym (at 0 (omega arith)) ∙ h.opens;
      close = h.close;
      body = moved_body q (w ++ drop len text) text whole (chars_front q w [] (drop len text) (omega arith) (moved_body q w (w ++ []) (sym (append-nil w)) h.body));
      closes = sym (at h.close some) ∙ h.closes;
      inside = omega arith;
      ends = omega (arith, h.ends);
    }

pub literal_from : (q : ℕ) (text : List ℕ) (len : ℕ) (us : List ℕ) → Quoted q text len us → (len ≤ length text) × IsLiteral q (take len text) us
literal_from q text len us h =
    let w = take len text in
    let inside : len ≤ length text = omega (arith, h.inside, h.ends) in
    let size : length w ≡ len = length-take-le len text inside in
    let whole : w ++ drop len text ≡ text = take-append-drop len text in
    let at : (i : ℕ) → i < len → slice_index w i ≡ slice_index text i = λ i m. sym (index_front w (drop len text) i (omega arith)) ∙ ap (λ t. slice_index t i) whole in
    let some : h.close < len = omega (arith, h.ends) in (
      inside,
      record {
        opens = at 0 (omega arith) ∙ h.opens;
        close = h.close;
        body = moved_body q (w ++ []) w (append-nil w) (chars_front q w (drop len text) [] (omega arith) (moved_body q text (w ++ drop len text) (sym whole) h.body));
        closes = at h.close some ∙ h.closes;
        ends = omega (arith, h.ends);
      },
    )

pub first_boundary : (text : List ℕ) (q : ℕ) → IsUtf8 text → is_quote q ≡ true → slice_index text 0 ≡ q → IsCharBoundary text 1
first_boundary text q u h e =
    let low : (0 < q) × (q < 128) = (grind (arith, nat_tests), grind (arith, nat_tests)) in
    IsCharBoundary-after_ascii text 0 u (index_inside text 0 (omega arith)) (omega arith)
