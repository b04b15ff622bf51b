-- The value of digits grows with each.
use Rattle.std.proofs.Common.{◌≡◌, ℕ, ◌+◌, ◌*◌, ◌^◌, ◌<◌, ◌≤◌, true, List, [], ◌∷◌, ◌++◌, length, get_or, take, drop, refl, ap, subst, arith}
use Rattle.std.specs.Char.{digit_value, is_digit}
use Rattle.std.specs.List.{list_all}
use Rattle.std.specs.Str.Parse.{digits_value, digits_value_after, AllDigits}
use Rattle.std.proofs.lemmas.Int.Digits.{digits_value_more, digits_value-lt}
use Rattle.std.proofs.lemmas.Bool.{ltb-true}
use Rattle.std.proofs.lemmas.List.{take-append-drop}
use Rattle.jr_lex.proofs.ByteLemmas.{both_left, both_right}
use Rattle.std.proofs.Math.Nat.{mul-le-mul_left}

after-append : (r n : ℕ) (xs ys : List ℕ) → digits_value_after r n (xs ++ ys) ≡ digits_value_after r (digits_value_after r n xs) ys
after-append r n [] ys = refl
after-append r n (x ∷ xs) ys = after-append r (n * r + digit_value x) xs ys

grows : (n r d : ℕ) → 2 ≤ r → n ≤ n * r + d
grows n r d h = omega (arith, mul-le-mul_left n h)

after_ge : (r n : ℕ) (ds : List ℕ) → 2 ≤ r → n ≤ digits_value_after r n ds
after_ge r n [] h = omega arith
after_ge r n (d ∷ ds) h =
    let step = grows n r (digit_value d) h in
    let rest = after_ge r (n * r + digit_value d) ds h in
    omega arith

pub digits_grow : (radix : ℕ) (bs : List ℕ) (i : ℕ) → 2 ≤ radix → i < length bs → digits_value radix (take i bs) * radix + digit_value (get_or bs i 0) ≤ digits_value radix bs
digits_grow radix bs i h l =
    let front = take (i + 1) bs in
    let whole : digits_value radix (front ++ drop (i + 1) bs) ≡ digits_value radix bs = ap (digits_value radix) (take-append-drop (i + 1) bs) in
    let cut : digits_value radix (front ++ drop (i + 1) bs) ≡ digits_value_after radix (digits_value radix front) (drop (i + 1) bs) = after-append radix 0 front (drop (i + 1) bs) in
    let le : digits_value radix front ≤ digits_value_after radix (digits_value radix front) (drop (i + 1) bs) = after_ge radix (digits_value radix front) (drop (i + 1) bs) h in
    let more : digits_value radix front ≡ digits_value radix (take i bs) * radix + digit_value (get_or bs i 0) = digits_value_more radix bs i l in
    omega arith

-- bytes that pass the test of a digit are digits
all_digits : (radix : ℕ) (cs : List ℕ) → list_all (λ c. is_digit c radix) cs ≡ true → AllDigits radix cs
all_digits radix [] h = tt
all_digits radix (c ∷ cs) h = (
  ltb-true (digit_value c) radix (both_left (is_digit c radix) (list_all (λ c. is_digit c radix) cs) h),
  all_digits radix cs (both_right (is_digit c radix) (list_all (λ c. is_digit c radix) cs) h),
)

-- four hexadecimal digits make 16 bits
pub hex_small : (ds : List ℕ) → length ds ≡ 4 → list_all (λ c. is_digit c 16) ds ≡ true → digits_value 16 ds < 65536
hex_small ds four h =
    let low = digits_value-lt 16 ds (all_digits 16 ds h) in
    subst (λ n. digits_value 16 ds < 16 ^ n) four low
