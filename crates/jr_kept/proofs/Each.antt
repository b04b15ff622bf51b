-- What holds of each item of a list, item by item.
use Rattle.std.proofs.Common.{◌≡◌, ⊎_elim, subst, arith, ℕ, ◌+◌, ◌<◌, List, [], ◌∷◌, ◌++◌}
use Rattle.std.specs.List.{Contains}
use Rattle.std.proofs.lemmas.Bool.{cases_lt}
use Rattle.std.proofs.lemmas.List.Elements.{Contains-push_cases}
use Rattle.jr_kept.specs.declared.edges.Firsts.{Firsts}
use Rattle.jr_kept.specs.Ordered.{Tells}
use Rattle.jr_kept.proofs.Telling.{tells_both, tells_like}

pub all_none : {X : Type 0} (P : X → Type 0) (x : X) → Contains [] x → P x
all_none P x c = absurd (omega (arith, c.1))

pub all_more : {X : Type 0} (P Q : X → Type 0) (some more : List X) (x : X) → more ≡ some ++ x ∷ [] → ((y : X) → P y → Q y) → Q x → ((y : X) → Contains some y → P y) → (y : X) → Contains more y → Q y
all_more P Q some more x e wider now early y c = ⊎_elim (λ before. wider y (early y before)) (λ same. subst Q same now) (Contains-push_cases some x y (subst (λ xs. Contains xs y) e c))

-- what is tested of each number below another
pub each_told : (P : ℕ → Type 0) (n : ℕ) (a b c : Firsts) → Tells a b ((k : ℕ) → k < n → P k) → Tells b c (P n) → Tells a c ((k : ℕ) → k < n + 1 → P k)
each_told P n a b c first second = tells_like a c (((k : ℕ) → k < n → P k) × P n) ((k : ℕ) → k < n + 1 → P k)
    (λ both k lt. ⊎_elim (λ early. both.0 k early) (λ past. let same : n ≡ k = omega (arith, lt, past) in subst P same both.1) (cases_lt k n))
    (λ all. (λ k lt. all k (omega (arith, lt)), all n (omega arith))) (tells_both a b c ((k : ℕ) → k < n → P k) (P n) first second)
