-- What the first edges so far tell.
use Rattle.std.proofs.Common.{◌≡◌, ⊎_elim, sym, ◌∙◌, subst, ℕ, Bool, true, List, [], ◌∷◌, ◌++◌}
use Rattle.std.specs.List.{Contains}
use Rattle.std.proofs.lemmas.List.Elements.{Contains-append_left, Contains-push, Contains-push_cases}
use Rattle.jr_kept.specs.declared.edges.Firsts.{Firsts}
use Rattle.jr_kept.specs.Ordered.{Tells}
use Rattle.jr_kept.proofs.Searching.{none_in}

pub tells_still : (a : Firsts) (P : Type 0) → P → Tells a a P
tells_still a P p = record { none = λ h. (h, p); kept = λ h q. h }

pub tells_both : (a b c : Firsts) (P Q : Type 0) → Tells a b P → Tells b c Q → Tells a c (P × Q)
tells_both a b c P Q first second = record {
  none = λ h. let later = second.none h in let early = first.none later.0 in (early.0, (early.1, later.1));
  kept = λ h pq. second.kept (first.kept h pq.0) pq.1;
}

pub tells_like : (a b : Firsts) (P Q : Type 0) → (P → Q) → (Q → P) → Tells a b P → Tells a b Q
tells_like a b P Q f g t = record { none = λ h. let all = t.none h in (all.0, f all.1); kept = λ h q. t.kept h (g q) }

-- what is tested of item by item
pub tells_none : (a : Firsts) (P : ℕ → Type 0) → Tells a a ((n : ℕ) → Contains [] n → P n)
tells_none a P = tells_still a ((n : ℕ) → Contains [] n → P n) (λ n c. absurd (none_in n c))

pub tells_more : (a b c : Firsts) (test : ℕ → Bool) (all : List ℕ) (x : ℕ) (is_there : Bool) → Tells a b ((n : ℕ) → Contains all n → test n ≡ true) → is_there ≡ test x → Tells b c (is_there ≡ true)
    → Tells a c ((n : ℕ) → Contains (all ++ x ∷ []) n → test n ≡ true)
tells_more a b c test all x is_there first is second = record {
  none = λ h. let later = second.none h in let early = first.none later.0 in
      (early.0, λ n m. ⊎_elim (λ e. early.1 n e) (λ same. subst (λ k. test k ≡ true) same (sym is ∙ later.1)) (Contains-push_cases all x n m));
  kept = λ h each. second.kept (first.kept h (λ n m. each n (Contains-append_left all (x ∷ []) n m))) (is ∙ each x (Contains-push all x));
}
