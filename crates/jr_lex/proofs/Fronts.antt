-- What stands in the front of a text does not depend on what follows.
use Rattle.std.proofs.Common.{◌≡◌, ℕ, ◌+◌, ◌<◌, ◌≤◌, Bool, List, ◌++◌, length, take, drop, sym, ◌∙◌, ap, arith, length-drop, append_assoc}
use Rattle.std.specs.Prelude.{slice_index}
use Rattle.std.specs.Char.{len_utf8}
use Rattle.std.proofs.Math.ListN.{get_or-append}
use Rattle.std.proofs.Math.Seq.{take-append_seam}
use Rattle.std.proofs.lemmas.List.{drop-append-le, take-append-le, take-append-drop}
use Rattle.std.proofs.lemmas.Str.{length-encode}
use lib.Utf8.{encode}
use Rattle.jr_base.specs.Places.{CharAt, CharRun, none, more}
use Rattle.jr_base.specs.Identifiers.{WordAt}
use Rattle.jr_base.proofs.Runs.{run_le}

-- of two ways to cut a list, the shorter front begins the longer
front_of : (a b c d : List ℕ) → a ++ b ≡ c ++ d → length c ≤ length a → a ≡ c ++ drop (length c) a
front_of a b c d e l =
    let same : take (length c) a ≡ c = sym (take-append-le (length c) a b l) ∙ ap (take (length c)) e ∙ take-append_seam c d in
    sym (take-append-drop (length c) a) ∙ ap (λ x. x ++ drop (length c) a) same

pub index_front : (w r : List ℕ) (i : ℕ) → i < length w → slice_index (w ++ r) i ≡ slice_index w i
index_front w r i l = get_or-append w r 0 i l

pub index_same : (w r s : List ℕ) (i : ℕ) → i < length w → slice_index (w ++ r) i ≡ slice_index (w ++ s) i
index_same w r s i l = index_front w r i l ∙ sym (index_front w s i l)

module _ (w r s : List ℕ) where
  pub char_front : (i c : ℕ) → i + len_utf8 c ≤ length w → CharAt (w ++ r) i c → CharAt (w ++ s) i c
  char_front i c l h =
      let cut : drop i w ++ r ≡ encode c ++ h.rest = sym (drop-append-le i w r (omega arith)) ∙ h.split in
      let wide : length (encode c) ≤ length (drop i w) = omega (arith, length-encode c, length-drop i w) in
      let rest = drop (length (encode c)) (drop i w) in
      let whole : drop i w ≡ encode c ++ rest = front_of (drop i w) r (encode c) h.rest cut wide in
      record {
        scalar = h.scalar;
        rest = rest ++ s;
        split = drop-append-le i w s (omega arith) ∙ ap (λ x. x ++ s) whole ∙ append_assoc (encode c) rest s;
      }

  pub run_front : {p : ℕ → Bool} {start end : ℕ} → end ≤ length w → CharRun p (w ++ r) start end → CharRun p (w ++ s) start end
  run_front l none = none
  run_front l (more {start = start} {c = c} h y k) = more (char_front start c (omega (arith, run_le k)) h) y (run_front l k)

  pub word_front : (end : ℕ) → end ≤ length w → WordAt (w ++ r) 0 end → WordAt (w ++ s) 0 end
  word_front end l h = record {
    first = h.first;
    here = char_front 0 h.first (omega (arith, run_le h.run)) h.here;
    starts = h.starts;
    run = run_front l h.run;
  }
