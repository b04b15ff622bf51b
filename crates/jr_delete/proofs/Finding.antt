-- The first item that passes, and the last number.
use Rattle.std.proofs.Common.{◌≡◌, refl, sym, ◌∙◌, ap, arith, ℕ, zero, suc, ◌+◌, ◌<◌, Bool, true, false, cond, List, [], ◌∷◌, length, get_or, Option, Some, None, add-one}
use Rattle.std.proofs.lemmas.Bool.{false≢true}
use Rattle.std.specs.List.{find}
use Rattle.jr_plain.specs.Search.{last_below}

chosen : (b : Bool) (x : ℕ) (rest : Option ℕ) → b ≡ true → cond b (Some x) rest ≡ Some x
chosen true x rest h = refl
chosen false x rest h = absurd (false≢true h)

passed : (b : Bool) (x : ℕ) (rest found : Option ℕ) → b ≡ false → rest ≡ found → cond b (Some x) rest ≡ found
passed false x rest found h e = e
passed true x rest found h e = absurd (false≢true (sym h))

module _ (test : ℕ → Bool) where
  -- this item passes, and none before it
  pub found_at : (xs : List ℕ) (at : ℕ) → at < length xs → test (get_or xs at 0) ≡ true → ((k : ℕ) → k < at → test (get_or xs k 0) ≡ false) → find test xs ≡ Some (get_or xs at 0)
  found_at [] at lt passes fails = absurd (omega arith)
  found_at (x ∷ xs) zero lt passes fails = chosen (test x) x (find test xs) passes
  found_at (x ∷ xs) (suc at) lt passes fails = passed (test x) x (find test xs) (Some (get_or xs at 0)) (fails 0 (omega arith))
      (found_at xs at (omega arith) passes (λ k below. fails (suc k) (omega arith)))

  -- no item passes
  pub found_none : (xs : List ℕ) → ((k : ℕ) → k < length xs → test (get_or xs k 0) ≡ false) → find test xs ≡ None
  found_none [] fails = refl
  found_none (x ∷ xs) fails = passed (test x) x (find test xs) None (fails 0 (omega arith)) (found_none xs (λ k below. fails (suc k) (omega arith)))

-- one number more, which passes or not
pub last_taken : (test : ℕ → Bool) (n : ℕ) (before more : Option ℕ) → before ≡ last_below n test → test n ≡ true → more ≡ Some n → more ≡ last_below (n + 1) test
last_taken test n before more h passes is = rw add-one (is ∙ by (test n) passes)
  where
    by : (b : Bool) → b ≡ true → Some n ≡ cond b (Some n) (last_below n test)
    by true e = refl
    by false e = absurd (false≢true e)

pub last_kept : (test : ℕ → Bool) (n : ℕ) (before more : Option ℕ) → before ≡ last_below n test → test n ≡ false → more ≡ before → more ≡ last_below (n + 1) test
last_kept test n before more h fails is = rw add-one (is ∙ h ∙ by (test n) fails)
  where
    by : (b : Bool) → b ≡ false → last_below n test ≡ cond b (Some n) (last_below n test)
    by false e = refl
    by true e = absurd (false≢true (sym e))
