-- The bits of words: one variable of 64.
use Rattle.std.proofs.Common.{◌≡◌, refl, ◌∙◌, ap, arith, ℕ, zero, suc, ◌-◌, ◌<◌, ◌^◌, ◌*◌, ◌%◌, min, max, Bool, true, false, ◌&&◌, ◌||◌, if◌then◌else◌, List, Option, Some, None, nat_eq, nat_lt, slice_index_or}
use Rattle.std.specs.Int.{bit_at, bit_not, w64}
use Rattle.std.proofs.lemmas.Nat.Bits.{bit_at-zero, bit_at_and, bit_at_or, bit_at_ones, bit_at_not, bit_at-lt}
use Rattle.jr_assign.specs.Sets.{only}
use Rattle.jr_assign.specs.Words.{mask_of, mask, words, has_bit, IsTold, EachWordIsOfVariables}
use Rattle.jr_assign.proofs.Carried.{Keeps, carries}

and_bits : (x y : ℕ) → x < 2 → y < 2 → nat_eq (min x y) 1 ≡ (nat_eq x 1 && nat_eq y 1)
and_bits zero zero a b = refl
and_bits zero (suc zero) a b = refl
and_bits (suc zero) zero a b = refl
and_bits (suc zero) (suc zero) a b = refl
and_bits (suc (suc x)) y a b = absurd (omega arith)
and_bits zero (suc (suc y)) a b = absurd (omega arith)
and_bits (suc zero) (suc (suc y)) a b = absurd (omega arith)

or_bits : (x y : ℕ) → x < 2 → y < 2 → nat_eq (max x y) 1 ≡ (nat_eq x 1 || nat_eq y 1)
or_bits zero zero a b = refl
or_bits zero (suc zero) a b = refl
or_bits (suc zero) zero a b = refl
or_bits (suc zero) (suc zero) a b = refl
or_bits (suc (suc x)) y a b = absurd (omega arith)
or_bits zero (suc (suc y)) a b = absurd (omega arith)
or_bits (suc zero) (suc (suc y)) a b = absurd (omega arith)

less_bits : (x y : ℕ) → x < 2 → y < 2 → nat_eq (min x (1 - y)) 1 ≡ (if nat_eq y 1 then false else nat_eq x 1)
less_bits zero zero a b = refl
less_bits zero (suc zero) a b = refl
less_bits (suc zero) zero a b = refl
less_bits (suc zero) (suc zero) a b = refl
less_bits (suc (suc x)) y a b = absurd (omega arith)
less_bits zero (suc (suc y)) a b = absurd (omega arith)
less_bits (suc zero) (suc (suc y)) a b = absurd (omega arith)

few_bits : (from : ℕ) (o : Option ℕ) → mask_of from o < 2 ^ 64
few_bits from None = omega arith
few_bits from (Some k) = by (nat_lt k from) (nat_lt (k - from) 64)
  where
    by : (b c : Bool) → (if b then 0 else (if c then 1 * 2 ^ (k - from) % 2 ^ 64 else 0)) < 2 ^ 64
    by true c = omega arith
    by false true = omega arith
    by false false = omega arith

module _ (numbers : List (Option ℕ)) (from v k : ℕ) (small : k < 64) where
  pub bits_keep : Keeps (words numbers from) (only v) (has_bit k) (IsTold numbers from v k)
  bits_keep = record {
    none = ap (λ b. nat_eq b 1) (bit_at-zero k);
    all = ap (λ b. nat_eq b 1) (bit_at_ones 64 k small);
    both = λ x y. ap (λ b. nat_eq b 1) (bit_at_and x y k) ∙ and_bits (bit_at x k) (bit_at y k) (bit_at-lt x k) (bit_at-lt y k);
    either = λ x y. ap (λ b. nat_eq b 1) (bit_at_or x y k) ∙ or_bits (bit_at x k) (bit_at y k) (bit_at-lt x k) (bit_at-lt y k);
    one = λ d told. told;
    less = λ d told x. let m = mask numbers from d in
        ap (λ b. nat_eq b 1) (bit_at_and x (bit_not w64 m) k ∙ ap (λ b. min (bit_at x k) b) (bit_at_not w64 m k (few_bits from (slice_index_or numbers d None)) small))
        ∙ less_bits (bit_at x k) (bit_at m k) (bit_at-lt x k) (bit_at-lt m k) ∙ ap (λ b. if b then false else has_bit k x) told;
  }

pub each_word : EachWordIsOfVariables
each_word numbers from v k p f root start a has are = carries (words numbers from) (only v) (has_bit k) (IsTold numbers from v k) (bits_keep numbers from v k has.small) p f root start a
    (record { declared = has.declared; assigned = has.assigned }) are
