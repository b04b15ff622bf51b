-- Numbers of rows that stand behind one another.
use Rattle.std.proofs.Common.{◌≡◌, ℕ, zero, suc, ◌+◌, ◌-◌, Bool, true, false, ◌&&◌, nat_eq, nat_lt, refl, ap, arith}

-- a number that is greater by one
pub one_behind : (m n : ℕ) → nat_lt m n && nat_eq (n - m) 1 ≡ nat_eq n (m + 1)
one_behind m n = grind arith
