-- What may stand behind a token.
use Rattle.std.proofs.Common.{◌≡◌, ℕ, ◌<◌, true, false, ◌||◌, ◌&&◌, ◌==◌, not, List, [], ◌∷◌, ◌++◌, length, refl, sym, ◌∙◌, ap, subst, arith, length-append}
use Rattle.std.specs.Prelude.{slice_index}
use Rattle.std.specs.Char.{is_ascii_alphanumeric}
use Rattle.std.proofs.Math.Seq.{take-append_seam, drop-append_seam}
use Rattle.std.proofs.lemmas.Bool.Decides.{nat_tests}
use Rattle.std.proofs.lemmas.Str.{length-encode, len_utf8_bounds}
use lib.Utf8.{encode}
use Rattle.unicode_ident.proofs.IdentLemmas.{is_xid_continue-ascii}
use Rattle.jr_base.specs.Identifiers.{is_word_char}
use Rattle.jr_base.specs.Places.{CharAt}
use Rattle.jr_base.specs.Tokens.{Spells, IsApart, IsToken, IsLongest, EndsInteger}
use Rattle.jr_base.specs.declared.kind.Kind.{Kind}
use Rattle.jr_base.specs.declared.kind.Kind.TheVariants.{Word, Ident, Int, IntMin, Long, LongMin, Char, Str, Sym}
use Rattle.jr_lex.specs.Texts.{EndsWord, Follows, FollowsExactly, SimplyFollows, breaks_word, goes_on}
use Rattle.jr_lex.proofs.ByteLemmas.{both_left, both_right}
use Rattle.jr_lex.proofs.CharacterLemmas.{char_byte}
use Rattle.jr_lex.proofs.Classes.{kind_class, Letter, token_word}
use Rattle.jr_lex.proofs.Longest.{WordStops, word_longest, integer_longest, char_longest, string_longest, symbol_longest}
use Rattle.jr_lex.proofs.Respelling.{stops_of}
use Rattle.jr_lex.proofs.SymbolFronts.{symbol_ends}

module _ (w rest : List ℕ) where
  stops : EndsWord rest → WordStops (w ++ rest) (length w)
  stops f c h = f c (record { scalar = h.scalar; rest = h.rest; split = sym (drop-append_seam w rest) ∙ h.split })

  apart : (k : Kind) → Follows k w rest → IsApart k (w ++ rest) (length w)
  apart (Word k) f = tt
  apart (Ident n) f = tt
  apart (Int v) f = subst EndsInteger (sym (drop-append_seam w rest)) f
  apart IntMin f = subst EndsInteger (sym (drop-append_seam w rest)) f
  apart (Long v) f = subst EndsInteger (sym (drop-append_seam w rest)) f
  apart LongMin f = subst EndsInteger (sym (drop-append_seam w rest)) f
  apart (Char u) f = tt
  apart (Str us) f = tt
  apart (Sym s) f = f.starts

  made : (k : Kind) → Spells k w → Follows k w rest → IsToken (w ++ rest) (length w) k
  made k s f = record {
    inside = omega (arith, length-append w rest);
    spells = subst (Spells k) (sym (take-append_seam w rest)) s;
    apart = apart k f;
  }

  word : (k : Kind) → kind_class k ≡ Letter → EndsWord rest → IsToken (w ++ rest) (length w) k → IsLongest (w ++ rest) (length w) k
  word k e f t = word_longest (w ++ rest) (length w) (token_word (w ++ rest) (length w) k e t) (stops f) k e t

  pub follows_longest : (k : Kind) → Spells k w → Follows k w rest → IsLongest (w ++ rest) (length w) k
  follows_longest (Word k) s f = word (Word k) refl f (made (Word k) s f)
  follows_longest (Ident n) s f = word (Ident n) refl f (made (Ident n) s f)
  follows_longest (Int v) s f = integer_longest (w ++ rest) (length w) (Int v) refl (made (Int v) s f)
  follows_longest IntMin s f = integer_longest (w ++ rest) (length w) IntMin refl (made IntMin s f)
  follows_longest (Long v) s f = integer_longest (w ++ rest) (length w) (Long v) refl (made (Long v) s f)
  follows_longest LongMin s f = integer_longest (w ++ rest) (length w) LongMin refl (made LongMin s f)
  follows_longest (Char u) s f = char_longest (w ++ rest) (length w) u (made (Char u) s f)
  follows_longest (Str us) s f = string_longest (w ++ rest) (length w) us (made (Str us) s f)
  follows_longest (Sym r) s f = symbol_longest (w ++ rest) (length w) r (made (Sym r) s f) f.longest

  ends : (k : Kind) → kind_class k ≡ Letter → IsLongest (w ++ rest) (length w) k → EndsWord rest
  ends k e t c h = stops_of (w ++ rest) (length w) k e t c (record { scalar = h.scalar; rest = h.rest; split = drop-append_seam w rest ∙ h.split })

  longest_follows : (k : Kind) → IsLongest (w ++ rest) (length w) k → Follows k w rest
  longest_follows (Word k) t = ends (Word k) refl t
  longest_follows (Ident n) t = ends (Ident n) refl t
  longest_follows (Int v) t = subst EndsInteger (drop-append_seam w rest) t.stands.apart
  longest_follows IntMin t = subst EndsInteger (drop-append_seam w rest) t.stands.apart
  longest_follows (Long v) t = subst EndsInteger (drop-append_seam w rest) t.stands.apart
  longest_follows LongMin t = subst EndsInteger (drop-append_seam w rest) t.stands.apart
  longest_follows (Char u) t = tt
  longest_follows (Str us) t = tt
  longest_follows (Sym s) t = record {
    starts = t.stands.apart;
    longest = λ len r h. t.longest len (Sym r) (record { inside = h.inside; spells = h.spells; apart = t.stands.apart });
  }

pub follows_exactly : FollowsExactly
follows_exactly kind w rest s = (follows_longest w rest kind s, longest_follows w rest kind)

-- the simple cases
byte_breaks : (b : ℕ) → not (goes_on b) ≡ true → (b < 128) × (is_word_char b ≡ false)
byte_breaks b h = (low, rw (is_xid_continue-ascii b low) plain)
  where
    low : b < 128
    low = grind (arith, nat_tests)

    plain : ((is_ascii_alphanumeric b || (b == 95)) || (b == 36)) ≡ false
    plain = grind (arith, nat_tests)

no_char : (c : ℕ) → CharAt [] 0 c → ⊥
no_char c h = omega (arith, ap length h.split, length-append (encode c) h.rest, length-encode c, len_utf8_bounds c)

word_ends : (rest : List ℕ) → breaks_word rest ≡ true → EndsWord rest
word_ends [] e c h = absurd (no_char c h)
word_ends (b ∷ rest) e c h =
    let k = byte_breaks b e in
    subst (λ x. is_word_char x ≡ false) (sym (char_byte (b ∷ rest) 0 c h k.0)) k.1

no_point : (b : ℕ) → not (b == 46) ≡ true → b ≡ 46 → ⊥
no_point b h e = grind (arith, nat_tests)

integer_ends : (rest : List ℕ) → (breaks_word rest && not (slice_index rest 0 == 46)) ≡ true → EndsInteger rest
integer_ends rest h = record {
  whole = word_ends rest (both_left (breaks_word rest) (not (slice_index rest 0 == 46)) h);
  no_point = no_point (slice_index rest 0) (both_right (breaks_word rest) (not (slice_index rest 0 == 46)) h);
}

pub simply : SimplyFollows
simply (Word k) w rest s h = word_ends rest h
simply (Ident n) w rest s h = word_ends rest h
simply (Int v) w rest s h = integer_ends rest h
simply IntMin w rest s h = integer_ends rest h
simply (Long v) w rest s h = integer_ends rest h
simply LongMin w rest s h = integer_ends rest h
simply (Char u) w rest s h = tt
simply (Str us) w rest s h = tt
simply (Sym r) w rest s h = symbol_ends r w rest s h
