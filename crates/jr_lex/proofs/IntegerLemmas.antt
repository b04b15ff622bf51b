-- An integer literal is letters and digits, and begins with a digit.
use Rattle.std.proofs.Common.{◌≡◌, ⊎_elim, ℕ, zero, suc, ◌+◌, ◌-◌, ◌<◌, ◌≤◌, Bool, true, false, ◌&&◌, ◌==◌, nat_lt, List, length, take, drop, refl, sym, ◌∙◌, ap, subst, arith, Some, None, length-drop}
use Rattle.std.specs.Prelude.{slice_index}
use Rattle.std.specs.Char.{is_ascii_alphanumeric, is_ascii_digit, is_digit}
use Rattle.std.specs.List.{list_all}
use Rattle.std.proofs.lemmas.Bool.{eqb-true, ltb-true}
use Rattle.std.proofs.lemmas.Bool.Decides.{nat_tests}
use Rattle.std.proofs.lemmas.List.{get_or-take, get_or-drop, length-take-le}
use Rattle.jr_base.specs.Numerals.{is_hex_mark, is_long_mark, radix_of, digits_of, is_numeral, has_long_mark, numeral_in, integer_of}
use Rattle.jr_base.specs.declared.kind.Kind.{Kind}
use Rattle.jr_lex.proofs.ByteLemmas.{all_each, both_left, both_right, le_or_lt}

-- which base a numeral has, and why
data Radix (n : List ℕ) : Type 0 where
  sixteen : radix_of n ≡ 16 → slice_index n 0 ≡ 48 → is_hex_mark (slice_index n 1) ≡ true → Radix n
  eight : radix_of n ≡ 8 → slice_index n 0 ≡ 48 → Radix n
  ten : radix_of n ≡ 10 → Radix n

radix_cases : (n : List ℕ) → Radix n
radix_cases n = outer ((slice_index n 0 == 48) && nat_lt 1 (length n)) refl
  where
    inner : (b : Bool) → ((slice_index n 0 == 48) && nat_lt 1 (length n)) ≡ true → is_hex_mark (slice_index n 1) ≡ b → Radix n
    inner true e f = sixteen (rw (e, f) refl) (eqb-true (slice_index n 0) 48 (both_left (slice_index n 0 == 48) (nat_lt 1 (length n)) e)) f
    inner false e f = eight (rw (e, f) refl) (eqb-true (slice_index n 0) 48 (both_left (slice_index n 0 == 48) (nat_lt 1 (length n)) e))

    outer : (b : Bool) → ((slice_index n 0 == 48) && nat_lt 1 (length n)) ≡ b → Radix n
    outer true e = inner (is_hex_mark (slice_index n 1)) e refl
    outer false e = ten (rw e refl)

digits_some : (n : List ℕ) → is_numeral n ≡ true → 0 < length (digits_of n)
digits_some n h = ltb-true 0 (length (digits_of n)) (both_left (nat_lt 0 (length (digits_of n))) (list_all (λ c. is_digit c (radix_of n)) (digits_of n)) h)

digits_pass : (n : List ℕ) → is_numeral n ≡ true → list_all (λ c. is_digit c (radix_of n)) (digits_of n) ≡ true
digits_pass n h = both_right (nat_lt 0 (length (digits_of n))) (list_all (λ c. is_digit c (radix_of n)) (digits_of n)) h

alnum_digit : (c radix : ℕ) → radix ≤ 16 → is_digit c radix ≡ true → is_ascii_alphanumeric c ≡ true
alnum_digit c radix l h = grind (arith, nat_tests)

alnum_zero : (c : ℕ) → c ≡ 48 → is_ascii_alphanumeric c ≡ true
alnum_zero c h = rw h refl

alnum_mark : (c : ℕ) → is_hex_mark c ≡ true → is_ascii_alphanumeric c ≡ true
alnum_mark c h = grind (arith, nat_tests)

alnum_long : (c : ℕ) → is_long_mark c ≡ true → is_ascii_alphanumeric c ≡ true
alnum_long c h = grind (arith, nat_tests)

decimal_digit : (c : ℕ) → is_digit c 10 ≡ true → is_ascii_digit c ≡ true
decimal_digit c h = grind (arith, nat_tests)

-- the digits are the numeral itself
plain_digits : (n : List ℕ) (radix : ℕ) → is_numeral n ≡ true → radix_of n ≡ radix → (radix == 16) ≡ false → (0 < length n) × (list_all (λ c. is_digit c radix) n ≡ true)
plain_digits n radix h e other =
    let same : digits_of n ≡ n = rw (e, other) refl in
    (subst (λ ds. 0 < length ds) same (digits_some n h), subst (λ r. list_all (λ c. is_digit c r) n ≡ true) e (subst (λ ds. list_all (λ c. is_digit c (radix_of n)) ds ≡ true) same (digits_pass n h)))

record HexDigits (n : List ℕ) : Type 0 where
  long : 2 < length n
  pass : list_all (λ c. is_digit c 16) (drop 2 n) ≡ true

hex_digits : (n : List ℕ) → is_numeral n ≡ true → radix_of n ≡ 16 → HexDigits n
hex_digits n h e =
    let same : digits_of n ≡ drop 2 n = rw e refl in
    let some : 0 < length (drop 2 n) = subst (λ ds. 0 < length ds) same (digits_some n h) in
    record {
      long = omega (arith, length-drop 2 n);
      pass = subst (λ r. list_all (λ c. is_digit c r) (drop 2 n) ≡ true) e (subst (λ ds. list_all (λ c. is_digit c (radix_of n)) ds ≡ true) same (digits_pass n h));
    }

numeral_alnum : (n : List ℕ) → is_numeral n ≡ true → (i : ℕ) → i < length n → is_ascii_alphanumeric (slice_index n i) ≡ true
numeral_alnum n h i l =
    elim (radix_cases n) [
      | sixteen e z m ↦ by_hex i (hex_digits n h e) z m l
      | eight e z ↦ alnum_digit (slice_index n i) 8 (omega arith) (all_each (λ c. is_digit c 8) n (plain_digits n 8 h e refl).1 i l)
      | ten e ↦ alnum_digit (slice_index n i) 10 (omega arith) (all_each (λ c. is_digit c 10) n (plain_digits n 10 h e refl).1 i l)
    ]
  where
    by_hex : (i : ℕ) → HexDigits n → slice_index n 0 ≡ 48 → is_hex_mark (slice_index n 1) ≡ true → i < length n → is_ascii_alphanumeric (slice_index n i) ≡ true
    by_hex zero d z m l = alnum_zero (slice_index n 0) z
    by_hex (suc zero) d z m l = alnum_mark (slice_index n 1) m
    by_hex (suc (suc k)) d z m l =
        let size : k < length (drop 2 n) = omega (arith, length-drop 2 n) in
        let pass = all_each (λ c. is_digit c 16) (drop 2 n) d.pass k size in
        let read : slice_index (drop 2 n) k ≡ slice_index n (suc (suc k)) = get_or-drop 2 n k 0 ∙ ap (slice_index n) (let e : 2 + k ≡ suc (suc k) = omega arith in e) in
        alnum_digit (slice_index n (suc (suc k))) 16 (omega arith) (subst (λ c. is_digit c 16 ≡ true) read pass)

digit_zero : (c : ℕ) → c ≡ 48 → is_ascii_digit c ≡ true
digit_zero c h = rw h refl

numeral_first : (n : List ℕ) → is_numeral n ≡ true → (0 < length n) × (is_ascii_digit (slice_index n 0) ≡ true)
numeral_first n h =
    elim (radix_cases n) [
      | sixteen e z m ↦ (omega (arith, (hex_digits n h e).long), digit_zero (slice_index n 0) z)
      | eight e z ↦ ((plain_digits n 8 h e refl).0, digit_zero (slice_index n 0) z)
      | ten e ↦ ((plain_digits n 10 h e refl).0, decimal_digit (slice_index n 0) (all_each (λ c. is_digit c 10) n (plain_digits n 10 h e refl).1 0 (plain_digits n 10 h e refl).0))
    ]

some_none : {A : Type 0} {x : A} → Some x ≡ None → ⊥
some_none h = cc

integer_numeral : (w : List ℕ) (k : Kind) → integer_of w ≡ Some k → is_numeral (numeral_in w) ≡ true
unfolding integer_of
integer_numeral w k h = by (is_numeral (numeral_in w)) refl
  where
    by : (b : Bool) → is_numeral (numeral_in w) ≡ b → is_numeral (numeral_in w) ≡ true
    by true e = e
    by false e = let no : None ≡ Some k = rw e at h in absurd (some_none (sym no))

pub integer_alnum : (w : List ℕ) (k : Kind) → integer_of w ≡ Some k → (i : ℕ) → i < length w → is_ascii_alphanumeric (slice_index w i) ≡ true
integer_alnum w k h i l = by (has_long_mark w) refl
  where
    by : (b : Bool) → has_long_mark w ≡ b → is_ascii_alphanumeric (slice_index w i) ≡ true
    by true e =
        let same : numeral_in w ≡ take (length w - 1) w = rw e refl in
        let good : is_numeral (take (length w - 1) w) ≡ true = subst (λ n. is_numeral n ≡ true) same (integer_numeral w k h) in
        let size : length (take (length w - 1) w) ≡ length w - 1 = length-take-le (length w - 1) w (omega arith) in
        ⊎_elim
        (λ m. subst (λ j. is_ascii_alphanumeric (slice_index w j) ≡ true) (let at : length w - 1 ≡ i = omega arith in at) (alnum_long (slice_index w (length w - 1)) e))
        (λ m. subst (λ c. is_ascii_alphanumeric c ≡ true) (get_or-take (length w - 1) w i 0 m) (numeral_alnum (take (length w - 1) w) good i (omega arith)))
        (le_or_lt (length w - 1) i)
    by false e =
        let same : numeral_in w ≡ w = rw e refl in
        numeral_alnum w (subst (λ n. is_numeral n ≡ true) same (integer_numeral w k h)) i l

pub integer_first : (w : List ℕ) (k : Kind) → integer_of w ≡ Some k → (0 < length w) × (is_ascii_digit (slice_index w 0) ≡ true)
integer_first w k h = by (has_long_mark w) refl
  where
    by : (b : Bool) → has_long_mark w ≡ b → (0 < length w) × (is_ascii_digit (slice_index w 0) ≡ true)
    by true e =
        let same : numeral_in w ≡ take (length w - 1) w = rw e refl in
        let f = numeral_first (take (length w - 1) w) (subst (λ n. is_numeral n ≡ true) same (integer_numeral w k h)) in
        let size : length (take (length w - 1) w) ≡ length w - 1 = length-take-le (length w - 1) w (omega arith) in
        (omega (arith, f.0), subst (λ c. is_ascii_digit c ≡ true) (get_or-take (length w - 1) w 0 0 (omega (arith, f.0))) f.1)
    by false e =
        let same : numeral_in w ≡ w = rw e refl in
        numeral_first w (subst (λ n. is_numeral n ≡ true) same (integer_numeral w k h))
