-- Searches for the first number that passes.
use Rattle.std.proofs.Common.{◌≡◌, ap, sym, ◌∙◌, subst, ⊎_elim, arith, ℕ, ◌+◌, ◌<◌, ◌≤◌, ◌^◌, Bool, false, length}
use Rattle.std.proofs.lemmas.Bool.{cases_eq}
use Rattle.jr_tree.specs.Rows.{Rows}

-- all numbers up to this one fail
pub fails_more : (test : ℕ → Bool) (n : ℕ) → ((k : ℕ) → k < n → test k ≡ false) → test n ≡ false → (k : ℕ) → k < n + 1 → test k ≡ false
fails_more test n fails here k lt = ⊎_elim (λ e. ap test e ∙ here) (λ apart. fails k (omega arith)) (cases_eq k n)

pub none_before : (test : ℕ → Bool) (k : ℕ) → k < 0 → test k ≡ false
none_before test k lt = absurd (omega (arith, lt))

-- as many rows as are counted
counted_rows : (p q : Rows) (n : ℕ) → q ≡ p → (length q + 3 < 2 ^ 32 → n ≡ length q) → length p + 3 < 2 ^ 32 → n ≡ length p
counted_rows p q n same counted few = counted (subst (λ r. length r + 3 < 2 ^ 32) (sym same) few) ∙ ap length same

less_by : (n m k : ℕ) → n ≡ m → k < n → k < m
less_by n m k e lt = omega (arith, e, lt)

pub inside : (p q : Rows) (n k : ℕ) → q ≡ p → (length q + 3 < 2 ^ 32 → n ≡ length q) → length p + 3 < 2 ^ 32 → k < n → k < length p
inside p q n k same counted few lt = less_by n (length p) k (counted_rows p q n same counted few) lt

less_than_end : (n m k at : ℕ) → n ≡ m → n ≤ at → k < m → k < at
less_than_end n m k at e le lt = omega (arith, e, le, lt)

pub passed : (p q : Rows) (n k at : ℕ) → q ≡ p → (length q + 3 < 2 ^ 32 → n ≡ length q) → length p + 3 < 2 ^ 32 → n ≤ at → k < length p → k < at
passed p q n k at same counted few le lt = less_than_end n (length p) k at (counted_rows p q n same counted few) le lt
