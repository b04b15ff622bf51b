-- String literals of plain ASCII characters, and that of a line feed.
use Rattle.std.proofs.Common.{◌≡◌, ℕ, suc, ◌+◌, ◌<◌, Bool, true, false, ◌||◌, ◌&&◌, List, [], ◌∷◌, ◌++◌, length, refl, sym, ◌∙◌, ap, subst, arith, append_assoc, length-append, if◌then◌else◌, nat_lt}
use Rattle.std.specs.Prelude.{codes, slice_index}
use Rattle.std.specs.Char.{is_ascii}
use Rattle.std.specs.Char.Escape.{encode_utf16}
use Rattle.std.specs.List.{list_all}
use Rattle.std.specs.Str.{bytes_eq}
use Rattle.std.proofs.Math.Seq.{drop-append_seam, get_or-append_seam}
use Rattle.std.proofs.Math.Utf8.{low_scalar}
use Rattle.std.proofs.lemmas.Bool.{ltb-true}
use Rattle.std.proofs.lemmas.Bool.Decides.{nat_tests}
use Rattle.std.proofs.lemmas.Slice.Eq.{bytes_eq-Decides}
use Rattle.std.proofs.lemmas.Str.{encode_ascii, len_utf8_ascii}
use Rattle.jr_base.specs.Literals.{Characters, none, plain, escape, is_plain, escape_of, IsLiteral}
use Rattle.jr_lex.proofs.ByteLemmas.{both_left, both_right}

-- how the units are spelled between quotes: as they are, but for a line feed alone
abbrev pub literal_text : List ℕ → List ℕ
literal_text units = if bytes_eq units (10 ∷ []) then codes "\"\\n\"" else 34 ∷ units ++ 34 ∷ []

abbrev is_plain_unit : ℕ → Bool
is_plain_unit c = is_ascii c && is_plain 34 c

abbrev pub is_text : List ℕ → Bool
is_text units = bytes_eq units (10 ∷ []) || list_all is_plain_unit units

line_feed_literal : IsLiteral 34 (codes "\"\\n\"") (10 ∷ [])
unfolding escape_of
line_feed_literal = record { opens = refl; close = 3; body = escape refl none; closes = refl; ends = refl }

one_unit : (c : ℕ) → c < 128 → encode_utf16 c ≡ c ∷ []
one_unit c low = let small : nat_lt c 65536 ≡ true = grind (arith, nat_tests) in rw small refl

-- units that stand for themselves, behind any front
plain_units : (front units : List ℕ) → list_all is_plain_unit units ≡ true → Characters 34 (front ++ (units ++ 34 ∷ [])) (length front) (length front + length units) units
plain_units front [] h = subst (λ n. Characters 34 (front ++ 34 ∷ []) (length front) n []) (let e : length front ≡ length front + 0 = omega arith in e) none
plain_units front (c ∷ units) h =
    let here = both_left (is_plain_unit c) (list_all is_plain_unit units) h in
    let low : c < 128 = ltb-true c 128 (both_left (is_ascii c) (is_plain 34 c) here) in
    let word = front ++ (c ∷ units ++ 34 ∷ []) in
    let one : encode_utf16 c ≡ c ∷ [] = one_unit c low in
    let next : Characters 34 word (length front + 1) (length front + suc (length units)) units =
    subst (λ w. Characters 34 w (length front + 1) (length front + suc (length units)) units) (append_assoc front (c ∷ []) (units ++ 34 ∷ []))
    (subst (λ n. Characters 34 ((front ++ c ∷ []) ++ (units ++ 34 ∷ [])) n (length front + suc (length units)) units) (length-append front (c ∷ []))
    (subst (λ n. Characters 34 ((front ++ c ∷ []) ++ (units ++ 34 ∷ [])) (length (front ++ c ∷ [])) n units) (let e : length (front ++ c ∷ []) + length units ≡ length front + suc (length units) = omega (arith, length-append front (c ∷ [])) in e)
    (plain_units (front ++ c ∷ []) units (both_right (is_plain_unit c) (list_all is_plain_unit units) h)))) in
    subst (λ us. Characters 34 word (length front) (length front + suc (length units)) (us ++ units)) one
    (plain (record { scalar = low_scalar c (omega arith); rest = units ++ 34 ∷ []; split = drop-append_seam front (c ∷ units ++ 34 ∷ []) ∙ ap (λ w. w ++ (units ++ 34 ∷ [])) (sym (encode_ascii c low)) })
    (both_right (is_ascii c) (is_plain 34 c) here)
    (subst (λ n. Characters 34 word (length front + n) (length front + suc (length units)) units) (sym (len_utf8_ascii c low)) next))

plain_literal : (units : List ℕ) → list_all is_plain_unit units ≡ true → IsLiteral 34 (34 ∷ units ++ 34 ∷ []) units
plain_literal units h = record {
  opens = refl;
  close = 1 + length units;
  body = plain_units (34 ∷ []) units h;
  closes = subst (λ n. slice_index (34 ∷ units ++ 34 ∷ []) n ≡ 34) (let e : length (34 ∷ units) ≡ 1 + length units = omega arith in e) (get_or-append_seam (34 ∷ units) 34 [] 0);
  ends = omega (arith, length-append units (34 ∷ []));
}

pub literal : (units : List ℕ) → is_text units ≡ true → IsLiteral 34 (literal_text units) units
literal units h = by (bytes_eq units (10 ∷ [])) refl h
  where
    by : (t : Bool) → bytes_eq units (10 ∷ []) ≡ t → (t || list_all is_plain_unit units) ≡ true → IsLiteral 34 (if t then codes "\"\\n\"" else 34 ∷ units ++ 34 ∷ []) units
    by true e h = subst (λ us. IsLiteral 34 (codes "\"\\n\"") us) (sym ((bytes_eq-Decides units (10 ∷ [])).0 e)) line_feed_literal
    by false e h = plain_literal units h
