-- The declarations that have code, and those whose points are not counted.
use Rattle.std.proofs.Common.{◌≡◌, ⊎_elim, refl, sym, subst, arith, ℕ, zero, suc, ◌+◌, ◌<◌, ◌≤◌, Bool, true, false, if◌then◌else◌, List, [], ◌∷◌, length, get_or}
use Rattle.std.specs.List.{Contains}
use Rattle.std.proofs.lemmas.Bool.{cases_lt}
use Rattle.std.proofs.lemmas.List.Elements.{Contains-append_cases, Contains-append_left, Contains-append_right}
use Rattle.std.proofs.lemmas.Option.{slice_get_within, get_or_from_slice_get}
use Rattle.jr_tree.specs.Rows.{Rows}
use Rattle.jr_flow_defs.proofs.Searched.{contains_out, contains_first}
use Rattle.jr_flow.specs.Bodies.{has_code, bodies_below}
use Rattle.jr_flow.proofs.Linking.{get_of}

pub body_below : (p : Rows) (n k : ℕ) → Contains (bodies_below p n) k → (k < n) × (has_code p k ≡ true)
body_below p zero k c = absurd (omega (arith, c.1))
body_below p (suc n) k c = ⊎_elim
    (λ early. let one = body_below p n k early in let lt = one.0 in (omega (arith, lt), one.1))
    (λ last. by (has_code p n) refl last)
    (Contains-append_cases (bodies_below p n) (if has_code p n then n ∷ [] else []) k c)
  where
    by : (b : Bool) → has_code p n ≡ b → Contains (if b then n ∷ [] else []) k → (k < suc n) × (has_code p k ≡ true)
    by false is d = absurd (omega (arith, d.1))
    by true is d = ⊎_elim (λ same. (omega (arith, same), subst (λ z. has_code p z ≡ true) same is)) (λ more. absurd (omega (arith, more.1))) (contains_out n [] k d)

below_body : (p : Rows) (n k : ℕ) → k < n → has_code p k ≡ true → Contains (bodies_below p n) k
below_body p zero k lt has = absurd (omega (arith, lt))
below_body p (suc n) k lt has = ⊎_elim
    (λ less. Contains-append_left (bodies_below p n) (if has_code p n then n ∷ [] else []) k (below_body p n k less has))
    (λ past. let same : k ≡ n = omega (arith, past, lt) in Contains-append_right (bodies_below p n) (if has_code p n then n ∷ [] else []) k (last same))
    (cases_lt k n)
  where
    last : k ≡ n → Contains (if has_code p n then n ∷ [] else []) k
    last same = subst (λ b. Contains (if b then n ∷ [] else []) k) (sym (subst (λ z. has_code p z ≡ true) same has)) (subst (Contains (n ∷ [])) (sym same) (contains_first n []))

-- what holds of so many items of a list holds of one more
pub one_more : (P : ℕ → Type 0) (all : List ℕ) (i : ℕ) → P (get_or all i 0) → ((k : ℕ) → k < i → P (get_or all k 0)) → (k : ℕ) → k < i + 1 → P (get_or all k 0)
one_more P all i one h k lt = ⊎_elim (λ less. h k less) (λ past. let same : i ≡ k = omega (arith, past, lt) in subst (λ z. P (get_or all z 0)) same one) (cases_lt k i)

-- what holds of all items holds of each declaration that has code
pub of_each : (P : ℕ → Type 0) (p : Rows) (all : List ℕ) (n : ℕ) → all ≡ bodies_below p (length p) → length all ≤ n → ((k : ℕ) → k < n → P (get_or all k 0)) → (body : ℕ) → body < length p → has_code p body ≡ true → P body
of_each P p all n is le h body lt has = let one = get_of all body (subst (λ xs. Contains xs body) (sym is) (below_body p (length p) body lt has)) in let within = slice_get_within all one.0 body one.1 in
    subst P (get_or_from_slice_get all one.0 body 0 one.1) (h one.0 (omega (arith, le, within)))
