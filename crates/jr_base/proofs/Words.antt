-- When a text is a word.
use Rattle.std.proofs.Common.{◌≡◌, ℕ, ◌+◌, Bool, false, List, length, drop, sym, ◌∙◌, ap, subst, arith}
use Rattle.std.specs.Char.{len_utf8}
use Rattle.std.specs.Str.{IsUtf8, IsCharBoundary}
use Rattle.std.proofs.lemmas.Str.{IsUtf8-append, IsUtf8-encode, IsUtf8-nil, length-encode}
use Rattle.std.proofs.lemmas.List.{drop-drop, drop_at, drop_all}
use Rattle.std.proofs.lemmas.Bool.{false≢true}
use lib.Utf8.{encode}
use Rattle.jr_base.specs.Places.{CharAt, CharRun, none, more}
use Rattle.jr_base.specs.Identifiers.{WordAt, is_start_char, is_word_char}
use Rattle.jr_base.proofs.Runs.{char_one, char_inside, run_longest}

-- a text is UTF-8 from where a character stands before UTF-8
char_utf8 : (bs : List ℕ) (i c : ℕ) → CharAt bs i c → IsUtf8 (drop (i + len_utf8 c) bs) → IsUtf8 (drop i bs)
char_utf8 bs i c h u =
    let after : drop (i + len_utf8 c) bs ≡ h.rest = sym (drop-drop (len_utf8 c) i bs) ∙ ap (drop (len_utf8 c)) h.split ∙ drop_at (encode c) h.rest (len_utf8 c) (length-encode c) in
    subst IsUtf8 (sym h.split) (IsUtf8-append (encode c) h.rest (IsUtf8-encode c h.scalar) (subst IsUtf8 after u))

run_utf8 : {p : ℕ → Bool} {bs : List ℕ} {start end : ℕ} → CharRun p bs start end → IsUtf8 (drop end bs) → IsUtf8 (drop start bs)
run_utf8 none u = u
run_utf8 {bs = bs} (more {start = start} {c = c} h y r) u = char_utf8 bs start c h (run_utf8 r u)

pub word_utf8 : (bs : List ℕ) → WordAt bs 0 (length bs) → IsUtf8 bs
word_utf8 bs w = char_utf8 bs 0 w.first w.here (run_utf8 w.run (subst IsUtf8 (sym (drop_all (length bs) bs (omega arith))) IsUtf8-nil))

module _ (bs : List ℕ) (first end : ℕ) (here : CharAt bs 0 first) where
  pub not_word : is_start_char first ≡ false → WordAt bs 0 (length bs) → ⊥
  not_word other w = false≢true (sym other ∙ ap is_start_char (char_one bs 0 first w.first here w.here) ∙ w.starts)

  pub is_whole : IsCharBoundary bs end → CharRun is_word_char bs (0 + len_utf8 first) end → ((c : ℕ) → CharAt bs end c → is_word_char c ≡ false) → WordAt bs 0 (length bs) → end ≡ length bs
  is_whole boundary run stops w =
      let same = char_one bs 0 w.first first w.here here in
      let whole : CharRun is_word_char bs (0 + len_utf8 first) (length bs) = subst (λ c. CharRun is_word_char bs (0 + len_utf8 c) (length bs)) same w.run in
      omega (arith, boundary.0, run_longest run stops whole)

pub empty_word : (bs : List ℕ) → length bs ≡ 0 → WordAt bs 0 (length bs) → ⊥
empty_word bs empty w = omega (arith, char_inside bs 0 w.first w.here)
