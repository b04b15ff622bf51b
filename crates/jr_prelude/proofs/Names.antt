-- An ASCII letter and ASCII letters and digits behind it, which spell no keyword, are an identifier.
use Rattle.std.proofs.Common.{◌≡◌, ℕ, zero, suc, ◌+◌, ◌-◌, ◌<◌, Bool, true, false, not, ◌&&◌, List, [], ◌∷◌, ◌++◌, length, get_or, drop, refl, sym, ◌∙◌, ap, subst, arith}
use Rattle.std.specs.Char.{is_ascii_alphabetic, is_ascii_alphanumeric, len_utf8}
use Rattle.std.specs.List.{list_all}
use Rattle.std.specs.Str.{bytes_eq}
use Rattle.std.proofs.Math.Utf8.{low_scalar}
use Rattle.std.proofs.lemmas.Bool.{false≢true, ltb-true}
use Rattle.std.proofs.lemmas.Bool.Decides.{nat_tests}
use Rattle.std.proofs.lemmas.List.{drop_more}
use Rattle.std.proofs.lemmas.Slice.Eq.{bytes_eq-Decides}
use Rattle.std.proofs.lemmas.Str.{encode_ascii, len_utf8_ascii}
use Rattle.unicode_ident.proofs.IdentLemmas.{is_xid_start-ascii, is_xid_continue-ascii}
use Rattle.jr_base.specs.declared.kind.Keyword.{Keyword}
use Rattle.jr_base.specs.declared.kind.Keyword.TheVariants as keyword
use Rattle.jr_base.specs.Identifiers.{WordAt, IsIdentifier, is_start_char, is_word_char}
use Rattle.jr_base.specs.Places.{CharAt, CharRun, none, more}
use Rattle.jr_base.specs.Spellings.{keyword_text}
use Rattle.jr_lex.proofs.ByteLemmas.{all_each, both_left, both_right}

-- ---- keywords

abbrev pub all_keywords : List Keyword
all_keywords = keyword.Abstract ∷ keyword.Assert ∷ keyword.Boolean ∷ keyword.Break ∷ keyword.Byte ∷ keyword.Case ∷ keyword.Catch ∷ keyword.Char ∷ keyword.Class ∷ keyword.Const ∷ keyword.Continue ∷ keyword.Default ∷ keyword.Do ∷ keyword.Double ∷ keyword.Else ∷ keyword.Enum ∷ keyword.Extends ∷ keyword.Final ∷ keyword.Finally ∷ keyword.Float ∷ keyword.For ∷ keyword.Goto ∷ keyword.If ∷ keyword.Implements ∷ keyword.Import ∷ keyword.Instanceof ∷ keyword.Int ∷ keyword.Interface ∷ keyword.Long ∷ keyword.Native ∷ keyword.New ∷ keyword.Package ∷ keyword.Private ∷ keyword.Protected ∷ keyword.Public ∷ keyword.Return ∷ keyword.Short ∷ keyword.Static ∷ keyword.Strictfp ∷ keyword.Super ∷ keyword.Switch ∷ keyword.Synchronized ∷ keyword.This ∷ keyword.Throw ∷ keyword.Throws ∷ keyword.Transient ∷ keyword.Try ∷ keyword.Void ∷ keyword.Volatile ∷ keyword.While ∷ keyword.True ∷ keyword.False ∷ keyword.Null ∷ []

each_at : (test : Keyword → Bool) (ks : List Keyword) → list_all test ks ≡ true → (i : ℕ) → i < length ks → test (get_or ks i keyword.Abstract) ≡ true
each_at test [] h i l = absurd (omega arith)
each_at test (k ∷ ks) h zero l = both_left (test k) (list_all test ks) h
each_at test (k ∷ ks) h (suc i) l = each_at test ks (both_right (test k) (list_all test ks) h) i (omega arith)

-- what holds of each keyword of the list holds of every keyword
every_keyword : (test : Keyword → Bool) → list_all test all_keywords ≡ true → (k : Keyword) → test k ≡ true
every_keyword test h keyword.Abstract = each_at test all_keywords h 0 (ltb-true 0 53 refl)
every_keyword test h keyword.Assert = each_at test all_keywords h 1 (ltb-true 1 53 refl)
every_keyword test h keyword.Boolean = each_at test all_keywords h 2 (ltb-true 2 53 refl)
every_keyword test h keyword.Break = each_at test all_keywords h 3 (ltb-true 3 53 refl)
every_keyword test h keyword.Byte = each_at test all_keywords h 4 (ltb-true 4 53 refl)
every_keyword test h keyword.Case = each_at test all_keywords h 5 (ltb-true 5 53 refl)
every_keyword test h keyword.Catch = each_at test all_keywords h 6 (ltb-true 6 53 refl)
every_keyword test h keyword.Char = each_at test all_keywords h 7 (ltb-true 7 53 refl)
every_keyword test h keyword.Class = each_at test all_keywords h 8 (ltb-true 8 53 refl)
every_keyword test h keyword.Const = each_at test all_keywords h 9 (ltb-true 9 53 refl)
every_keyword test h keyword.Continue = each_at test all_keywords h 10 (ltb-true 10 53 refl)
every_keyword test h keyword.Default = each_at test all_keywords h 11 (ltb-true 11 53 refl)
every_keyword test h keyword.Do = each_at test all_keywords h 12 (ltb-true 12 53 refl)
every_keyword test h keyword.Double = each_at test all_keywords h 13 (ltb-true 13 53 refl)
every_keyword test h keyword.Else = each_at test all_keywords h 14 (ltb-true 14 53 refl)
every_keyword test h keyword.Enum = each_at test all_keywords h 15 (ltb-true 15 53 refl)
every_keyword test h keyword.Extends = each_at test all_keywords h 16 (ltb-true 16 53 refl)
every_keyword test h keyword.Final = each_at test all_keywords h 17 (ltb-true 17 53 refl)
every_keyword test h keyword.Finally = each_at test all_keywords h 18 (ltb-true 18 53 refl)
every_keyword test h keyword.Float = each_at test all_keywords h 19 (ltb-true 19 53 refl)
every_keyword test h keyword.For = each_at test all_keywords h 20 (ltb-true 20 53 refl)
every_keyword test h keyword.Goto = each_at test all_keywords h 21 (ltb-true 21 53 refl)
every_keyword test h keyword.If = each_at test all_keywords h 22 (ltb-true 22 53 refl)
every_keyword test h keyword.Implements = each_at test all_keywords h 23 (ltb-true 23 53 refl)
every_keyword test h keyword.Import = each_at test all_keywords h 24 (ltb-true 24 53 refl)
every_keyword test h keyword.Instanceof = each_at test all_keywords h 25 (ltb-true 25 53 refl)
every_keyword test h keyword.Int = each_at test all_keywords h 26 (ltb-true 26 53 refl)
every_keyword test h keyword.Interface = each_at test all_keywords h 27 (ltb-true 27 53 refl)
every_keyword test h keyword.Long = each_at test all_keywords h 28 (ltb-true 28 53 refl)
every_keyword test h keyword.Native = each_at test all_keywords h 29 (ltb-true 29 53 refl)
every_keyword test h keyword.New = each_at test all_keywords h 30 (ltb-true 30 53 refl)
every_keyword test h keyword.Package = each_at test all_keywords h 31 (ltb-true 31 53 refl)
every_keyword test h keyword.Private = each_at test all_keywords h 32 (ltb-true 32 53 refl)
every_keyword test h keyword.Protected = each_at test all_keywords h 33 (ltb-true 33 53 refl)
every_keyword test h keyword.Public = each_at test all_keywords h 34 (ltb-true 34 53 refl)
every_keyword test h keyword.Return = each_at test all_keywords h 35 (ltb-true 35 53 refl)
every_keyword test h keyword.Short = each_at test all_keywords h 36 (ltb-true 36 53 refl)
every_keyword test h keyword.Static = each_at test all_keywords h 37 (ltb-true 37 53 refl)
every_keyword test h keyword.Strictfp = each_at test all_keywords h 38 (ltb-true 38 53 refl)
every_keyword test h keyword.Super = each_at test all_keywords h 39 (ltb-true 39 53 refl)
every_keyword test h keyword.Switch = each_at test all_keywords h 40 (ltb-true 40 53 refl)
every_keyword test h keyword.Synchronized = each_at test all_keywords h 41 (ltb-true 41 53 refl)
every_keyword test h keyword.This = each_at test all_keywords h 42 (ltb-true 42 53 refl)
every_keyword test h keyword.Throw = each_at test all_keywords h 43 (ltb-true 43 53 refl)
every_keyword test h keyword.Throws = each_at test all_keywords h 44 (ltb-true 44 53 refl)
every_keyword test h keyword.Transient = each_at test all_keywords h 45 (ltb-true 45 53 refl)
every_keyword test h keyword.Try = each_at test all_keywords h 46 (ltb-true 46 53 refl)
every_keyword test h keyword.Void = each_at test all_keywords h 47 (ltb-true 47 53 refl)
every_keyword test h keyword.Volatile = each_at test all_keywords h 48 (ltb-true 48 53 refl)
every_keyword test h keyword.While = each_at test all_keywords h 49 (ltb-true 49 53 refl)
every_keyword test h keyword.True = each_at test all_keywords h 50 (ltb-true 50 53 refl)
every_keyword test h keyword.False = each_at test all_keywords h 51 (ltb-true 51 53 refl)
every_keyword test h keyword.Null = each_at test all_keywords h 52 (ltb-true 52 53 refl)

-- ---- identifiers

-- a letter, then letters and digits, and no keyword
abbrev pub is_plain_name : List ℕ → Bool
is_plain_name [] = false
is_plain_name (b ∷ rest) = is_ascii_alphabetic b && (list_all is_ascii_alphanumeric (b ∷ rest) && list_all (λ k. not (bytes_eq (keyword_text k) (b ∷ rest))) all_keywords)

low : (b : ℕ) → is_ascii_alphanumeric b ≡ true → b < 128
low b h = grind (arith, nat_tests)

goes : (b : ℕ) → is_ascii_alphanumeric b ≡ true → is_word_char b ≡ true
goes b h = rw (is_xid_continue-ascii b (low b h), h) refl

starts : (b : ℕ) → is_ascii_alphabetic b ≡ true → b < 128 → is_start_char b ≡ true
starts b h l = rw (is_xid_start-ascii b l, h) refl

char_here : (bs : List ℕ) (i : ℕ) → i < length bs → get_or bs i 0 < 128 → CharAt bs i (get_or bs i 0)
char_here bs i inside l = record {
  scalar = low_scalar (get_or bs i 0) (omega arith);
  rest = drop (i + 1) bs;
  split = drop_more bs i 0 inside ∙ ap (λ w. w ++ drop (i + 1) bs) (sym (encode_ascii (get_or bs i 0) l));
}

module _ (bs : List ℕ) (all : list_all is_ascii_alphanumeric bs ≡ true) where
  byte : (i : ℕ) → i < length bs → is_ascii_alphanumeric (get_or bs i 0) ≡ true
  byte i l = all_each is_ascii_alphanumeric bs all i l

  run_on : (n i : ℕ) → i + n ≡ length bs → CharRun is_word_char bs i (length bs)
  run_on zero i e = subst (λ n. CharRun is_word_char bs i n) (let same : i ≡ length bs = omega arith in same) none
  run_on (suc n) i e =
      let inside : i < length bs = omega arith in
      let b = byte i inside in
      let small = low (get_or bs i 0) b in
      more (char_here bs i inside small) (goes (get_or bs i 0) b)
      (subst (λ k. CharRun is_word_char bs k (length bs)) (let next : i + 1 ≡ i + len_utf8 (get_or bs i 0) = omega (arith, len_utf8_ascii (get_or bs i 0) small) in next) (run_on n (i + 1) (omega arith)))

  word_here : (b : ℕ) → 0 < length bs → get_or bs 0 0 ≡ b → is_ascii_alphabetic b ≡ true → WordAt bs 0 (length bs)
  word_here b some e h =
      let first = byte 0 some in
      let small = low (get_or bs 0 0) first in
      record {
        first = get_or bs 0 0;
        here = char_here bs 0 some small;
        starts = starts (get_or bs 0 0) (ap is_ascii_alphabetic e ∙ h) small;
        run = run_on (length bs - len_utf8 (get_or bs 0 0)) (0 + len_utf8 (get_or bs 0 0)) (omega (arith, len_utf8_ascii (get_or bs 0 0) small));
      }

not_true : (b : Bool) → not b ≡ true → b ≡ true → ⊥
not_true true h e = false≢true h
not_true false h e = false≢true e

pub plain_identifier : (name : List ℕ) → is_plain_name name ≡ true → IsIdentifier name
plain_identifier [] h = absurd (false≢true h)
plain_identifier (b ∷ rest) h =
    let name = b ∷ rest in
    let test = λ (k : Keyword). not (bytes_eq (keyword_text k) name) in
    let first = both_left (is_ascii_alphabetic b) (list_all is_ascii_alphanumeric name && list_all test all_keywords) h in
    let others = both_right (is_ascii_alphabetic b) (list_all is_ascii_alphanumeric name && list_all test all_keywords) h in
    record {
      word = word_here name (both_left (list_all is_ascii_alphanumeric name) (list_all test all_keywords) others) b (omega arith) refl first;
      free = λ k e. not_true (bytes_eq (keyword_text k) name) (every_keyword test (both_right (list_all is_ascii_alphanumeric name) (list_all test all_keywords) others) k)
          ((bytes_eq-Decides (keyword_text k) name).1 e);
    }
