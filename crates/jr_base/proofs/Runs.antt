-- One character at most stands at a place, so a run goes as far as it can in one way.
use Rattle.std.proofs.Common.{◌≡◌, ℕ, ◌+◌, ◌<◌, ◌≤◌, Bool, true, false, ◌||◌, ◌==◌, List, length, drop, refl, sym, ◌∙◌, ap, subst, arith, length-drop, length-append}
use Rattle.std.specs.Prelude.{slice_index}
use Rattle.std.proofs.lemmas.Bool.Decides.{nat_tests}
use Rattle.std.proofs.lemmas.List.{at_drop_more}
use Rattle.std.specs.Char.{is_ascii_alphabetic, is_ascii_alphanumeric, len_utf8}
use Rattle.std.specs.Str.{IsUtf8, IsCharBoundary}
use Rattle.std.proofs.lemmas.Str.{IsCharBoundary-past_char, encode_ascii, IsUtf8-drop, encode_same, len_utf8_bounds, length-encode}
use lib.Utf8.{encode}
use Rattle.std.proofs.lemmas.Bool.{false≢true}
use Rattle.unicode_ident.proofs.IdentLemmas.{is_xid_start-ascii, is_xid_continue-ascii}
use Rattle.jr_base.specs.Identifiers.{is_start_char, is_word_char}
use Rattle.jr_base.specs.Places.{CharAt, CharRun, none, more}

-- a text may be cut after a character
pub after_char : (bs : List ℕ) (i c : ℕ) → IsUtf8 bs → IsCharBoundary bs i → CharAt bs i c → IsCharBoundary bs (i + len_utf8 c)
after_char bs i c u b h = IsCharBoundary-past_char bs h.rest i c b.0 (IsUtf8-drop bs i u b) h.split

pub char_one : (bs : List ℕ) (i c d : ℕ) → CharAt bs i c → CharAt bs i d → c ≡ d
char_one bs i c d g h = (encode_same c d g.rest h.rest (sym g.split ∙ h.split)).0

-- one more character at the end
pub run_more : {p : ℕ → Bool} {bs : List ℕ} {start end c : ℕ} → CharRun p bs start end → CharAt bs end c → p c ≡ true → CharRun p bs start (end + len_utf8 c)
run_more none h y = more h y none
run_more (more g x r) h y = more g x (run_more r h y)

pub run_le : {p : ℕ → Bool} {bs : List ℕ} {start end : ℕ} → CharRun p bs start end → start ≤ end
run_le none = omega arith
run_le (more {c = c} g x r) = omega (arith, run_le r, len_utf8_bounds c)

run_from : {p : ℕ → Bool} {bs : List ℕ} {a b end : ℕ} → a ≡ b → CharRun p bs b end → CharRun p bs a end
run_from {p} {bs} {end = end} e r = subst (λ x. CharRun p bs x end) (sym e) r

-- where a run cannot go on, no other from the same place is longer
pub run_longest : {p : ℕ → Bool} {bs : List ℕ} {start end other : ℕ} → CharRun p bs start end → ((c : ℕ) → CharAt bs end c → p c ≡ false) → CharRun p bs start other → other ≤ end
run_longest none stop none = omega arith
run_longest none stop (more h y s) = absurd (false≢true (sym (stop _ h) ∙ y))
run_longest (more g x r) stop none = run_le (more g x r)
run_longest {bs = bs} (more {start = start} {c = c} g x r) stop (more {c = d} h y s) =
    let e = char_one bs start c d g h in
    run_longest r stop (run_from (ap (λ k. start + len_utf8 k) e) s)

-- a character stands inside the text
pub char_inside : (bs : List ℕ) (i c : ℕ) → CharAt bs i c → i < length bs
char_inside bs i c h = omega (arith, length-drop i bs, ap length h.split, length-append (encode c) h.rest, length-encode c, len_utf8_bounds c)

-- an ASCII byte is a character
pub char_of_byte : (text : List ℕ) (place : ℕ) → place < length text → slice_index text place < 128 → CharAt text place (slice_index text place)
char_of_byte text place l a = record {
  scalar = grind (arith, nat_tests);
  rest = drop (place + 1) text;
  split = rw (encode_ascii (slice_index text place) a) (at_drop_more (λ x. x) text place 0 l);
}

pub start_ascii : (c : ℕ) → c < 128 → is_start_char c ≡ (is_ascii_alphabetic c || ((c == 95) || (c == 36)))
start_ascii c l = rw (is_xid_start-ascii c l) refl

pub word_ascii : (c : ℕ) → c < 128 → is_word_char c ≡ ((is_ascii_alphanumeric c || (c == 95)) || (c == 36))
word_ascii c l = rw (is_xid_continue-ascii c l) refl
