-- The digits of a number, as the library writes them.
use Rattle.std.proofs.Common.{◌≡◌, refl, ap, arith, ℕ, suc, ◌+◌, ◌∷◌, ℤ, pos, negsuc, decimal}
use Rattle.std.specs.Fmt.{signed_decimal}
use Rattle.jr_defs.specs.Operators.{digits}

one_more : (n : ℕ) → suc n ≡ n + 1
one_more n = omega arith

pub digits_are : (z : ℤ) → signed_decimal z ≡ digits z
digits_are (pos n) = refl
digits_are (negsuc n) = ap (λ m. 45 ∷ decimal m) (one_more n)
