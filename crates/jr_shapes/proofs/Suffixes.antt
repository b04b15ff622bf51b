-- The last identifiers of a type's name, one at a time.
use Rattle.std.proofs.Common.{◌≡◌, refl, sym, ◌∙◌, ap, arith, ℕ, zero, suc, ◌+◌, ◌-◌, ◌<◌, ◌≤◌, List, [], ◌∷◌, ◌++◌, take, Option, Some, None, append_assoc, append-nil}
use Rattle.jr_tree.specs.Rows.{Rows}
use Rattle.jr_shapes.specs.Names.{around, package_names, suffix}

-- these are the first ones, and so many follow from the type c on
pub record SuffixTo (p : Rows) (count of left c : ℕ) (done : List ℕ) : Type 0 where
  pub rest : done ++ suffix p left c ≡ suffix p count of

over_by : (p : Rows) (c d k : ℕ) (o : Option ℕ) → o ≡ Some d → elim o as (λ _. List ℕ) [ Some d ↦ suffix p k d | None ↦ take k (package_names p c) ] ≡ suffix p k d
over_by p c d k (Some e) h = ap (suffix p k) (cc)
over_by p c d k None h = cc

top_by : (p : Rows) (c k : ℕ) (o : Option ℕ) → o ≡ None → elim o as (λ _. List ℕ) [ Some d ↦ suffix p k d | None ↦ take k (package_names p c) ] ≡ take k (package_names p c)
top_by p c k (Some e) h = cc
top_by p c k None h = refl

pub suffix_over : {p : Rows} {count of left c : ℕ} {done : List ℕ} (k d : ℕ) (more : List ℕ) → SuffixTo p count of left c done → Some d ≡ around p c → left ≡ k + 1 → more ≡ done ++ c ∷ []
    → SuffixTo p count of k d more
suffix_over {p = p} {left = left} {c = c} {done = done} k d more before h one pushed = record {
  rest = ap (λ xs. xs ++ suffix p k d) pushed ∙ append_assoc done (c ∷ []) (suffix p k d) ∙ ap (λ xs. done ++ (c ∷ xs)) (sym (over_by p c d k (around p c) (sym h))) ∙ ap (λ m. done ++ suffix p m c) room ∙ before.rest;
}
  where
    room : suc k ≡ left
    room = omega arith

pub suffix_top : {p : Rows} {count of left c : ℕ} {done : List ℕ} (k : ℕ) (more all : List ℕ) → SuffixTo p count of left c done → None ≡ around p c → left ≡ k + 1 → more ≡ done ++ c ∷ []
    → all ≡ more ++ take k (package_names p c) → all ≡ suffix p count of
suffix_top {p = p} {left = left} {c = c} {done = done} k more all before h one pushed last =
    last ∙ ap (λ xs. xs ++ take k (package_names p c)) pushed ∙ append_assoc done (c ∷ []) (take k (package_names p c)) ∙ ap (λ xs. done ++ (c ∷ xs)) (sym (top_by p c k (around p c) (sym h))) ∙ ap (λ m. done ++ suffix p m c) room ∙ before.rest
  where
    room : suc k ≡ left
    room = omega arith

pub suffix_done : {p : Rows} {count of left c : ℕ} {done : List ℕ} → SuffixTo p count of left c done → left ≡ 0 → done ≡ suffix p count of
suffix_done {p = p} {c = c} {done = done} before none = sym (append-nil done) ∙ ap (λ m. done ++ suffix p m c) (sym none) ∙ before.rest
