-- Tables of the last parts that rows have.
use Rattle.std.proofs.Common.{◌≡◌, ◌≢◌, refl, sym, ◌∙◌, ap, ap₂, add-one, ⊎_elim, arith, ℕ, ◌+◌, ◌<◌, true, false, cond, List, length, Option, Some, None, nat_eq, get_or, replicate, slice_set}
use Rattle.std.proofs.lemmas.Bool.{cases_eq, cases_Bool}
use Rattle.std.proofs.lemmas.Bool.Decides.{Decides-eqb}
use Rattle.std.proofs.lemmas.List.{ext_get_or, get_or-set_same, get_or-set_other, get_or-replicate, length-set, length-replicate}
use Rattle.jr_tree.specs.Rows.{Rows}
use Rattle.jr_places.specs.Tabulated.{tabulated}
use Rattle.jr_places.proofs.Tables.{length-tabulated, tabulated_at}
use Rattle.jr_flow_faults.specs.declared.facts.Part.{Part}
use Rattle.jr_flow_faults.specs.Computed.{holder, is_it, last_part, last_parts, put_part}

eq_true : (m n : ℕ) → m ≡ n → nat_eq m n ≡ true
eq_true m n e = (Decides-eqb m n).1 e

eq_false : (m n : ℕ) → m ≢ n → nat_eq m n ≡ false
eq_false m n apart = ⊎_elim (λ t. absurd (apart ((Decides-eqb m n).0 t))) (λ f. f) (cases_Bool (nat_eq m n))

module _ {A : Type 0} (f : ℕ → A) (x : A) where
  changed : (size m i : ℕ) → i < size → get_or (slice_set (tabulated f size) m x) i x ≡ cond (nat_eq m i) x (f i)
  changed size m i lt = let long = length-tabulated f size in ⊎_elim
      (λ e. ap (λ j. get_or (slice_set (tabulated f size) m x) j x) (sym e) ∙ get_or-set_same (tabulated f size) m x x (omega arith) ∙ sym (ap (λ b. cond b x (f i)) (eq_true m i e)))
      (λ apart. get_or-set_other (tabulated f size) m i x x (λ e. apart (sym e)) ∙ tabulated_at f x size i lt ∙ sym (ap (λ b. cond b x (f i)) (eq_false m i apart)))
      (cases_eq m i)

  -- one item of a table is changed
  set_tabulated : (size m : ℕ) → slice_set (tabulated f size) m x ≡ tabulated (λ i. cond (nat_eq m i) x (f i)) size
  set_tabulated size m = let long = length-tabulated f size in let other = length-tabulated (λ i. cond (nat_eq m i) x (f i)) size in let kept = length-set (tabulated f size) m x in
      ext_get_or x _ _ (omega arith) (λ i lt. changed size m i (omega arith) ∙ sym (tabulated_at (λ i. cond (nat_eq m i) x (f i)) x size i (omega arith)))

module _ (p : Rows) (kind : Part) where
  put_one : (k : ℕ) (at : Option ℕ) → put_part at k (last_parts p kind k) ≡ tabulated (λ n. cond (is_it at n) (Some k) (last_part p kind k n)) (length p)
  put_one k None = refl
  put_one k (Some m) = set_tabulated (last_part p kind k) (Some k) (length p) m

  pub parts_more : (k : ℕ) (all new : List (Option ℕ)) (at : Option ℕ) → all ≡ last_parts p kind k → at ≡ holder p kind k → new ≡ put_part at k all → new ≡ last_parts p kind (k + 1)
  parts_more k all new at h is put = rw add-one (put ∙ ap₂ (λ o xs. put_part o k xs) is h ∙ put_one k (holder p kind k))

  pub no_parts_yet : (all : List (Option ℕ)) → all ≡ replicate (length p) None → all ≡ last_parts p kind 0
  no_parts_yet all e = e ∙ by (length p)
    where
      by : (size : ℕ) → replicate size None ≡ tabulated (last_part p kind 0) size
      by size = let long = length-tabulated (last_part p kind 0) size in let other = length-replicate {A = Option ℕ} size None in
          ext_get_or None _ _ (omega arith) (λ i lt. get_or-replicate size i None None (omega arith) ∙ sym (tabulated_at (last_part p kind 0) None size i (omega arith)))
