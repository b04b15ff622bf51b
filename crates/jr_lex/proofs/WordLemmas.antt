-- Words of ASCII characters.
use Rattle.std.proofs.Common.{◌≡◌, ℕ, ◌+◌, ◌<◌, Bool, true, false, ◌||◌, ◌==◌, List, length, sym, ◌∙◌, ap, subst, arith}
use Rattle.std.specs.Prelude.{slice_index}
use Rattle.std.specs.Char.{is_ascii_alphabetic, is_ascii_alphanumeric, len_utf8}
use Rattle.std.proofs.lemmas.Bool.Decides.{nat_tests}
use Rattle.std.proofs.lemmas.Str.{len_utf8_ascii}
use Rattle.jr_base.specs.Identifiers.{is_word_char, WordAt}
use Rattle.jr_base.specs.Places.{CharAt, CharRun, none, more}
use Rattle.jr_lex.proofs.Found.{no_word}
use Rattle.jr_base.proofs.Runs.{char_of_byte, char_one, run_more, start_ascii, word_ascii}

-- a byte that goes on a word, where it is below 128
abbrev pub word_byte : ℕ → Bool
word_byte b = (is_ascii_alphanumeric b || (b == 95)) || (b == 36)

abbrev pub start_byte : ℕ → Bool
start_byte b = is_ascii_alphabetic b || ((b == 95) || (b == 36))

pub word_low : (b : ℕ) → word_byte b ≡ true → b < 128
word_low b h = grind (arith, nat_tests)

pub run_both : {p : ℕ → Bool} {bs : List ℕ} {start mid end : ℕ} → CharRun p bs start mid → CharRun p bs mid end → CharRun p bs start end
run_both none r = r
run_both (more h y s) r = more h y (run_both s r)

module _ (text : List ℕ) (at : ℕ) (inside : at < length text) (low : slice_index text at < 128) where
  here : CharAt text at (slice_index text at)
  here = char_of_byte text at inside low

  pub run_byte : {start : ℕ} → CharRun is_word_char text start at → word_byte (slice_index text at) ≡ true → CharRun is_word_char text start (at + 1)
  run_byte {start} r e = subst (λ n. CharRun is_word_char text start (at + n)) (len_utf8_ascii (slice_index text at) low) (run_more r here (word_ascii (slice_index text at) low ∙ e))

  pub byte_stops : word_byte (slice_index text at) ≡ false → (c : ℕ) → CharAt text at c → is_word_char c ≡ false
  byte_stops e c h = ap is_word_char (char_one text at c (slice_index text at) h here) ∙ (word_ascii (slice_index text at) low ∙ e)

pub byte_starts : (text : List ℕ) → 0 < length text → slice_index text 0 < 128 → start_byte (slice_index text 0) ≡ true → (end : ℕ) → CharRun is_word_char text 1 end → WordAt text 0 end
byte_starts text l low e end r =
    let one : 1 ≡ 0 + len_utf8 (slice_index text 0) = omega (arith, len_utf8_ascii (slice_index text 0) low) in
    record {
      first = slice_index text 0;
      here = here text 0 l low;
      starts = start_ascii (slice_index text 0) low ∙ e;
      run = subst (λ n. CharRun is_word_char text n end) one r;
    }

pub byte_no_start : (text : List ℕ) → 0 < length text → slice_index text 0 < 128 → start_byte (slice_index text 0) ≡ false → (len : ℕ) → WordAt text 0 len → ⊥
byte_no_start text l low e = no_word text (slice_index text 0) (here text 0 l low) (start_ascii (slice_index text 0) low ∙ e)
