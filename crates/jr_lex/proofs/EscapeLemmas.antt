-- An escape does not depend on what follows the byte behind it, and its last byte is ASCII.
use Rattle.std.proofs.Common.{◌≡◌, ⊎_elim, ℕ, zero, suc, ◌+◌, ◌-◌, ◌<◌, ◌≤◌, Bool, true, false, cond, ◌&&◌, ◌==◌, List, [], ◌∷◌, ◌++◌, length, take, drop, refl, sym, ◌∙◌, ap, subst, arith, Option, Some, None, length-drop}
use Rattle.std.specs.Prelude.{slice_index, option_map, nat_le}
use Rattle.std.specs.Char.{is_digit}
use Rattle.std.specs.List.{list_all}
use Rattle.std.proofs.lemmas.Bool.Decides.{nat_tests}
use Rattle.std.proofs.lemmas.List.{drop-append-le, take-append-le, get_or-take, get_or-drop}
use Rattle.std.specs.Str.Parse.{digits_value}
use Rattle.jr_base.specs.Literals.{simple_escape, octal_count, hex_unit, mark_count, escaped, escape_of}
use Rattle.std.specs.Str.{IsUtf8, IsCharBoundary}
use Rattle.std.proofs.lemmas.Bool.{eqb-true}
use Rattle.std.proofs.lemmas.Str.{IsCharBoundary-after_ascii}
use Rattle.jr_lex.proofs.ByteLemmas.{all_each, both_left, both_right, le_or_lt}

-- the `u`s that end in the front
marks_front : (w r s : List ℕ) → mark_count (w ++ r) < length w → mark_count (w ++ s) ≡ mark_count (w ++ r)
marks_front [] r s l = absurd (omega arith)
marks_front (c ∷ w) r s l =
    let goal : Bool → Type 0 = λ b. cond b (1 + mark_count (w ++ r)) 0 < length (c ∷ w) → cond b (1 + mark_count (w ++ s)) 0 ≡ cond b (1 + mark_count (w ++ r)) 0 in
    elim (c == 117) as goal [ true ↦ λ h. ap (λ n. 1 + n) (marks_front w r s (omega arith)) | false ↦ λ h. refl ] l

octal_some : (t : List ℕ) → 1 ≤ octal_count t
octal_some t =
    elim (is_digit (slice_index t 1) 8) as (λ b. 1 ≤ cond b (cond (nat_le (slice_index t 0) 51 && is_digit (slice_index t 2) 8) 3 2) 1)
    [ true ↦ elim (nat_le (slice_index t 0) 51 && is_digit (slice_index t 2) 8) as (λ b. 1 ≤ cond b 3 2) [ true ↦ omega arith | false ↦ omega arith ] | false ↦ omega arith ]

-- the octal digits that end in the front
octal_front : (w r s : List ℕ) → octal_count (w ++ r) < length w → octal_count (w ++ s) ≡ octal_count (w ++ r)
octal_front [] r s l = absurd (omega arith)
octal_front (a ∷ []) r s l = absurd (omega (arith, octal_some (a ∷ r)))
octal_front (a ∷ b ∷ []) r s l =
    let count : List ℕ → Bool → ℕ = λ x d. cond d (cond (nat_le a 51 && is_digit (slice_index x 0) 8) 3 2) 1 in
    let goal : Bool → Type 0 = λ d. count r d < 2 → count s d ≡ count r d in
    elim (is_digit b 8) as goal [
      | true ↦ elim (nat_le a 51 && is_digit (slice_index r 0) 8) as (λ d. cond d 3 2 < 2 → count s true ≡ cond d 3 2) [ true ↦ λ h. absurd (omega arith) | false ↦ λ h. absurd (omega arith) ]
      | false ↦ λ h. refl
    ] l
octal_front (a ∷ b ∷ c ∷ w) r s l = refl

take_front : (w r s : List ℕ) (n : ℕ) → n ≤ length w → take n (w ++ s) ≡ take n (w ++ r)
take_front w r s n l = take-append-le n w s l ∙ sym (take-append-le n w r l)

-- the part of m and n more bytes
part_front : (w r s : List ℕ) (m n : ℕ) → m + n ≤ length w → take n (drop m (w ++ s)) ≡ take n (drop m (w ++ r))
part_front w r s m n l =
    let one : (x : List ℕ) → take n (drop m (w ++ x)) ≡ take n (drop m w) = λ x. ap (take n) (drop-append-le m w x (omega arith)) ∙ take-append-le n (drop m w) x (omega (arith, length-drop m w)) in
    one s ∙ sym (one r)

none_some : {A : Type 0} {x : A} → Some x ≡ None → ⊥
none_some h = cc

pub some_one : {A : Type 0} {x y : A} → Some x ≡ Some y → x ≡ y
some_one h = cc

-- the value in a mapped option
mapped : {A B : Type 0} (f : A → B) (o : Option A) (y : B) → option_map f o ≡ Some y → (x : A) × (o ≡ Some x) × (f x ≡ y)
mapped f (Some x) y h = (x, refl, some_one h)
mapped f None y h = cc

hex : ℕ → List ℕ → Option (ℕ × ℕ)
hex m x = option_map (λ u. (u, m + 4)) (hex_unit x)

octal : List ℕ → Option (ℕ × ℕ)
octal x = Some (digits_value 8 (take (octal_count x) x), octal_count x)

simple : ℕ → Option (ℕ × ℕ)
simple c = option_map (λ u. (u, 1)) (simple_escape c)

-- the text behind a backslash is read by its first byte
escaped_by : (t : List ℕ) → escaped t ≡ cond (slice_index t 0 == 117) (hex (mark_count t) (take 4 (drop (mark_count t) t))) (cond (is_digit (slice_index t 0) 8) (octal t) (simple (slice_index t 0)))
unfolding hex octal simple
escaped_by t = refl

hex_len : (m : ℕ) (x : List ℕ) (unit len : ℕ) → hex m x ≡ Some (unit, len) → len ≡ m + 4
unfolding hex
hex_len m x unit len h = let f = mapped (λ u. (u, m + 4)) (hex_unit x) (unit, len) h in sym (ap (λ p. p.1) f.2)

hex_front : (w r s : List ℕ) (unit len : ℕ) → len < length w → hex (mark_count (w ++ r)) (take 4 (drop (mark_count (w ++ r)) (w ++ r))) ≡ Some (unit, len)
    → hex (mark_count (w ++ s)) (take 4 (drop (mark_count (w ++ s)) (w ++ s))) ≡ Some (unit, len)
hex_front w r s unit len l h =
    let m = mark_count (w ++ r) in
    let e : len ≡ m + 4 = hex_len m (take 4 (drop m (w ++ r))) unit len h in
    let same : mark_count (w ++ s) ≡ m = marks_front w r s (omega arith) in
    let part : take 4 (drop m (w ++ s)) ≡ take 4 (drop m (w ++ r)) = part_front w r s m 4 (omega arith) in
    ap (λ n. hex n (take 4 (drop n (w ++ s)))) same ∙ ap (hex m) part ∙ h

octal_len : (x : List ℕ) (unit len : ℕ) → octal x ≡ Some (unit, len) → len ≡ octal_count x
unfolding octal
octal_len x unit len h = sym (ap (λ p. p.1) (some_one h))

octal_escape_front : (w r s : List ℕ) (unit len : ℕ) → len < length w → octal (w ++ r) ≡ Some (unit, len) → octal (w ++ s) ≡ Some (unit, len)
unfolding octal
octal_escape_front w r s unit len l h =
    let n = octal_count (w ++ r) in
    let e : len ≡ n = octal_len (w ++ r) unit len h in
    let same : octal_count (w ++ s) ≡ n = octal_front w r s (omega arith) in
    let part : take n (w ++ s) ≡ take n (w ++ r) = take_front w r s n (omega arith) in
    let made : ℕ → List ℕ → Option (ℕ × ℕ) = λ k x. Some (digits_value 8 x, k) in
    ap (λ k. made k (take k (w ++ s))) same ∙ ap (made n) part ∙ h

pub escaped_front : (w r s : List ℕ) (unit len : ℕ) → len < length w → escaped (w ++ r) ≡ Some (unit, len) → escaped (w ++ s) ≡ Some (unit, len)
escaped_front [] r s unit len l h = absurd (omega arith)
escaped_front (c ∷ w) r s unit len l h =
    let a = c ∷ w in
    let way : List ℕ → Bool → Bool → Option (ℕ × ℕ) = λ t b d. cond b (hex (mark_count t) (take 4 (drop (mark_count t) t))) (cond d (octal t) (simple c)) in
    let goal : Bool → Bool → Type 0 = λ b d. way (a ++ r) b d ≡ Some (unit, len) → way (a ++ s) b d ≡ Some (unit, len) in
    let by : goal (c == 117) (is_digit c 8) =
    elim (c == 117) as (λ b. goal b (is_digit c 8)) [
      | true ↦ λ k. hex_front a r s unit len l k
      | false ↦ elim (is_digit c 8) as (λ d. goal false d) [ true ↦ λ k. octal_escape_front a r s unit len l k | false ↦ λ k. k ]
    ] in
    escaped_by (a ++ s) ∙ by (sym (escaped_by (a ++ r)) ∙ h)

-- an escape that ends before the front does stands there whatever follows
pub escape_front : (w r s : List ℕ) (unit len : ℕ) → 1 + len < length w → escape_of (w ++ r) ≡ Some (unit, len) → escape_of (w ++ s) ≡ Some (unit, len)
unfolding escape_of
escape_front [] r s unit len l h = absurd (omega arith)
escape_front (b ∷ w) r s unit len l h =
    let goal : Bool → Type 0 = λ t. cond t (escaped (w ++ r)) None ≡ Some (unit, len) → cond t (escaped (w ++ s)) None ≡ Some (unit, len) in
    elim (b == 92) as goal [ true ↦ λ k. escaped_front w r s unit len (omega arith) k | false ↦ λ k. k ] h

-- a byte that is not 0 stands in the text
pub index_inside : (t : List ℕ) (i : ℕ) → 0 < slice_index t i → i < length t
index_inside [] i h = absurd (omega arith)
index_inside (x ∷ xs) zero h = omega arith
index_inside (x ∷ xs) (suc i) h = let k = index_inside xs i h in omega arith

digit_low : (c radix : ℕ) → radix ≤ 16 → is_digit c radix ≡ true → (0 < c) × (c < 128)
digit_low c radix l h = (grind (arith, nat_tests), grind (arith, nat_tests))

-- an escape's last byte, behind the backslash
record EndsLow (t : List ℕ) (len : ℕ) : Type 0 where
  some : 0 < len
  inside : len ≤ length t
  low : slice_index t (len - 1) < 128

at_digit : (t : List ℕ) (i len radix : ℕ) → radix ≤ 16 → len ≡ i + 1 → is_digit (slice_index t i) radix ≡ true → EndsLow t len
at_digit t i len radix l e h =
    let low = digit_low (slice_index t i) radix l h in
    let at : len - 1 ≡ i = omega arith in
    record { some = omega arith; inside = omega (arith, index_inside t i low.0); low = subst (λ k. slice_index t k < 128) (sym at) low.1 }

octal_ends : (t : List ℕ) (unit len : ℕ) → is_digit (slice_index t 0) 8 ≡ true → octal t ≡ Some (unit, len) → EndsLow t len
octal_ends t unit len h e = second (is_digit (slice_index t 1) 8) refl
  where
    third : (b : Bool) → is_digit (slice_index t 1) 8 ≡ true → (nat_le (slice_index t 0) 51 && is_digit (slice_index t 2) 8) ≡ b → EndsLow t len
    third true d f = let n : octal_count t ≡ 3 = rw (d, f) refl in
        at_digit t 2 len 8 (omega arith) (octal_len t unit len e ∙ n) (both_right (nat_le (slice_index t 0) 51) (is_digit (slice_index t 2) 8) f)
    third false d f = let n : octal_count t ≡ 2 = rw (d, f) refl in at_digit t 1 len 8 (omega arith) (octal_len t unit len e ∙ n) d

    second : (b : Bool) → is_digit (slice_index t 1) 8 ≡ b → EndsLow t len
    second true d = third (nat_le (slice_index t 0) 51 && is_digit (slice_index t 2) 8) d refl
    second false d = let n : octal_count t ≡ 1 = rw d refl in at_digit t 0 len 8 (omega arith) (octal_len t unit len e ∙ n) h

simple_high : (c : ℕ) → 128 ≤ c → simple_escape c ≡ None
simple_high c h = grind (arith, nat_tests)

simple_low : (c unit : ℕ) → simple_escape c ≡ Some unit → (0 < c) × (c < 128)
simple_low zero unit h = let no : None ≡ Some unit = h in cc
simple_low (suc n) unit h = (omega arith, ⊎_elim (λ l. absurd (none_some (sym h ∙ simple_high (suc n) l))) (λ l. l) (le_or_lt 128 (suc n)))

simple_ends : (t : List ℕ) (unit len : ℕ) → simple (slice_index t 0) ≡ Some (unit, len) → EndsLow t len
unfolding simple
simple_ends t unit len h =
    let f = mapped (λ u. (u, 1)) (simple_escape (slice_index t 0)) (unit, len) h in
    let low = simple_low (slice_index t 0) f.0 f.1 in
    let one : len ≡ 1 = sym (ap (λ p. p.1) f.2) in
    let at : len - 1 ≡ 0 = omega arith in
    record { some = omega arith; inside = omega (arith, index_inside t 0 low.0); low = subst (λ k. slice_index t k < 128) (sym at) low.1 }

hex_digits : (x : List ℕ) (unit : ℕ) → hex_unit x ≡ Some unit → (length x ≡ 4) × (list_all (λ c. is_digit c 16) x ≡ true)
hex_digits x unit h = by ((length x == 4) && list_all (λ c. is_digit c 16) x) refl
  where
    by : (b : Bool) → ((length x == 4) && list_all (λ c. is_digit c 16) x) ≡ b → (length x ≡ 4) × (list_all (λ c. is_digit c 16) x ≡ true)
    by true e = (eqb-true (length x) 4 (both_left (length x == 4) (list_all (λ c. is_digit c 16) x) e), both_right (length x == 4) (list_all (λ c. is_digit c 16) x) e)
    by false e = let no : None ≡ Some unit = rw e at h in absurd (none_some (sym no))

hex_ends : (t : List ℕ) (unit len : ℕ) → hex (mark_count t) (take 4 (drop (mark_count t) t)) ≡ Some (unit, len) → EndsLow t len
unfolding hex
hex_ends t unit len h =
    let m = mark_count t in
    let x = take 4 (drop m t) in
    let f = mapped (λ u. (u, m + 4)) (hex_unit x) (unit, len) h in
    let d = hex_digits x f.0 f.1 in
    let e : len ≡ m + 4 = sym (ap (λ p. p.1) f.2) in
    let last = all_each (λ c. is_digit c 16) x d.1 3 (omega arith) in
    let read : slice_index x 3 ≡ slice_index t (m + 3) = get_or-take 4 (drop m t) 3 0 (omega arith) ∙ get_or-drop m t 3 0 in
    at_digit t (m + 3) len 16 (omega arith) (omega arith) (subst (λ c. is_digit c 16 ≡ true) read last)

octal_or_simple : (t : List ℕ) (unit len : ℕ) (d : Bool) → is_digit (slice_index t 0) 8 ≡ d → cond d (octal t) (simple (slice_index t 0)) ≡ Some (unit, len) → EndsLow t len
octal_or_simple t unit len true e k = octal_ends t unit len e k
octal_or_simple t unit len false e k = simple_ends t unit len k

escaped_ends : (t : List ℕ) (unit len : ℕ) → escaped t ≡ Some (unit, len) → EndsLow t len
escaped_ends t unit len h =
    let way : Bool → Bool → Option (ℕ × ℕ) = λ b d. cond b (hex (mark_count t) (take 4 (drop (mark_count t) t))) (cond d (octal t) (simple (slice_index t 0))) in
    let by : (d : Bool) → is_digit (slice_index t 0) 8 ≡ d → (b : Bool) → way b d ≡ Some (unit, len) → EndsLow t len =
    λ d e b. elim b as (λ b. way b d ≡ Some (unit, len) → EndsLow t len) [
      | true ↦ λ k. hex_ends t unit len k
      | false ↦ octal_or_simple t unit len d e
    ] in
    by (is_digit (slice_index t 0) 8) refl (slice_index t 0 == 117) (sym (escaped_by t) ∙ h)

escape_parts : (t : List ℕ) (unit len : ℕ) → escape_of t ≡ Some (unit, len) → (slice_index t 0 ≡ 92) × (escaped (drop 1 t) ≡ Some (unit, len))
unfolding escape_of
escape_parts t unit len h = by (slice_index t 0 == 92) refl
  where
    by : (b : Bool) → (slice_index t 0 == 92) ≡ b → (slice_index t 0 ≡ 92) × (escaped (drop 1 t) ≡ Some (unit, len))
    by true e = (eqb-true (slice_index t 0) 92 e, rw e at h)
    by false e = let no : None ≡ Some (unit, len) = rw e at h in absurd (none_some (sym no))

-- an escape begins with a backslash
pub escape_opens : (t : List ℕ) (unit len : ℕ) → escape_of t ≡ Some (unit, len) → slice_index t 0 ≡ 92
escape_opens t unit len h = (escape_parts t unit len h).0

-- the text may be cut behind an escape
pub escape_boundary : (text : List ℕ) (start unit len : ℕ) → IsUtf8 text → escape_of (drop start text) ≡ Some (unit, len) → IsCharBoundary text (start + 1 + len)
escape_boundary text start unit len u h =
    let t = drop start text in
    let e = escaped_ends (drop 1 t) unit len (escape_parts t unit len h).1 in
    let back = index_inside t 0 (omega (arith, escape_opens t unit len h)) in
    let read : slice_index (drop 1 t) (len - 1) ≡ slice_index text (start + len) =
    get_or-drop 1 t (len - 1) 0 ∙ (get_or-drop start text (1 + (len - 1)) 0 ∙ ap (slice_index text) (let p : start + (1 + (len - 1)) ≡ start + len = omega (arith, e.some) in p)) in
    let low : slice_index text (start + len) < 128 = subst (λ b. b < 128) read e.low in
    let size : start + len < length text = omega (arith, e.inside, length-drop 1 t, length-drop start text, back) in
    let at : start + len + 1 ≡ start + 1 + len = omega arith in
    subst (λ k. IsCharBoundary text k) at (IsCharBoundary-after_ascii text (start + len) u size low)
