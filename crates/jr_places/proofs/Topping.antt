-- The top-level type of a row is that of the row over it, but at a top-level type.
use Rattle.std.proofs.Common.{◌≡◌, ◌⊎◌, refl, sym, ◌∙◌, ap, ap₂, ◌∷◌, ◌++◌, subst, inl, inr, ⊎_elim, arith, ℕ, zero, suc, ◌+◌, ◌<◌, ◌≤◌, Bool, true, false, cond, List, [], length, get_or, Option, Some, None, nat_eq, Decides}
use Rattle.std.specs.Prelude.{slice_index_or}
use Rattle.std.proofs.lemmas.Bool.{false≢true, cases_eq, cases_lt}
use Rattle.std.proofs.lemmas.Bool.Decides.{Decides-eqb}
use Rattle.std.proofs.lemmas.List.{get_or_past}
use Rattle.std.proofs.lemmas.Option.{none-some}
use Rattle.jr_tree.specs.Rows.{Rows, parent, end}
use Rattle.jr_tree.specs.Tree.{IsTree}
use Rattle.jr_tree.specs.Local.{IsLocal}
use Rattle.jr_defs.specs.Enclosing.{IsTopLevel, InTopLevel, SameTopLevel}
use Rattle.jr_plain.specs.Search.{Finds}
use Rattle.jr_plain.specs.Enclosing.{is_top_level, top_level_of, is_same_top_level}
use Rattle.jr_plain.proofs.Bounds.{type_below}
use Rattle.jr_plain.proofs.Enclosed.{top_level_tells, same_top_level_tells}
use Rattle.jr_plain.proofs.OneUnit.{one_top_level, top_level_finds}
use Rattle.jr_places.specs.Tabulated.{tabulated}
use Rattle.jr_places.proofs.Tables.{length-tabulated, tabulated_at}
use Rattle.jr_places.specs.Packages.{same_some}
use Rattle.jr_places.specs.Units.{top_by, tops}
use Rattle.jr_places.proofs.Rounding.{one_found}

module _ (p : Rows) (tree : IsTree p) (local : IsLocal p) where
  In : ℕ → ℕ → Type 0
  In n k = InTopLevel p k n

  finds_top : (n : ℕ) → Finds (top_level_of p n) (In n)
  unfolding In
  finds_top n = top_level_finds p local n

  top_itself : (n : ℕ) → IsTopLevel p n → In n n
  unfolding In
  top_itself n h = let lt = tree.nested n in record { top = h; from = omega arith; before = lt }

  none_first : (IsTopLevel p 0 → ⊥) → Finds None (In 0)
  unfolding In
  none_first apart k = (λ e. absurd (none-some k e), λ h. let le = h.from in let zero_is : k ≡ 0 = omega arith in absurd (apart (subst (λ k. IsTopLevel p k) zero_is h.top)))

  module _ (n : ℕ) (lt : n < length p) (pos : 0 < n) (apart : IsTopLevel p n → ⊥) where
    out : (k : ℕ) → In n k → In (parent p n) k
    unfolding In
    out k h = let up = tree.up n lt pos in let from = h.from in let before = h.before in
        ⊎_elim (λ same. absurd (apart (subst (λ k. IsTopLevel p k) same h.top))) (λ other. let le = tree.inner k n (omega arith) before in record { top = h.top; from = le; before = omega arith }) (cases_eq k n)

    into : (k : ℕ) → In (parent p n) k → In n k
    unfolding In
    into k h = let up = tree.up n lt pos in let held = tree.held n lt pos in let from = h.from in
        ⊎_elim (λ same. let equal = ap (end p) same in record { top = h.top; from = omega arith; before = omega (arith, equal) })
        (λ other. let ends = tree.apart k (parent p n) (omega arith) h.before in record { top = h.top; from = omega arith; before = omega arith }) (cases_eq k (parent p n))

    carried : Finds (top_level_of p (parent p n)) (In n)
    carried k = (λ e. into k ((finds_top (parent p n) k).0 e), λ h. (finds_top (parent p n) k).1 (out k h))

  stepped : (n : ℕ) → n < length p → (b : Bool) → Decides b (IsTopLevel p n) → cond b (Some n) (get_or (tabulated (top_level_of p) n) (parent p n) None) ≡ top_level_of p n
  stepped n lt true d = sym ((finds_top n n).1 (top_itself n (d.0 refl)))
  stepped zero lt false d = one_found (In 0) None (top_level_of p 0) (none_first (λ h. false≢true (d.1 h))) (finds_top 0)
  stepped (suc n) lt false d = let up = tree.up (suc n) lt (omega arith) in
      tabulated_at (top_level_of p) None (suc n) (parent p (suc n)) up
      ∙ one_found (In (suc n)) (top_level_of p (parent p (suc n))) (top_level_of p (suc n)) (carried (suc n) lt (omega arith) (λ h. false≢true (d.1 h))) (finds_top (suc n))

  top_step : (n : ℕ) → n < length p → top_by p (tabulated (top_level_of p) n) n ≡ top_level_of p n
  top_step n lt = stepped n lt (is_top_level p n) (top_level_tells p n)

  pub all_tops : (n : ℕ) → n ≤ length p → tops p n ≡ tabulated (top_level_of p) n
  all_tops zero le = refl
  all_tops (suc n) le = ap₂ (λ xs x. xs ++ x ∷ []) (all_tops n (omega arith)) (ap (λ xs. top_by p xs n) (all_tops n (omega arith)) ∙ top_step n (omega arith))

  past_none : (n : ℕ) → length p ≤ n → Finds None (In n)
  unfolding In
  past_none n le k = (λ e. absurd (none-some k e), λ h. let low = type_below p k h.top.type in let high = tree.last k low in let before = h.before in absurd (omega arith))

  -- the top-level type that the table has
  pub top_at : (n : ℕ) → slice_index_or (tops p (length p)) n None ≡ top_level_of p n
  top_at n = ap (λ xs. slice_index_or xs n None) (all_tops (length p) (omega arith)) ∙ ⊎_elim (λ lt. tabulated_at (top_level_of p) None (length p) n lt)
      (λ le. get_or_past (tabulated (top_level_of p) (length p)) n None (let s = length-tabulated (top_level_of p) (length p) in omega arith) ∙ one_found (In n) None (top_level_of p n) (past_none n le) (finds_top n)) (cases_lt n (length p))

  same_tells : (m n : ℕ) (a b : Option ℕ) → Finds a (In m) → Finds b (In n) → Decides (same_some a b) (SameTopLevel p m n)
  unfolding In
  same_tells m n None b f g = (λ h. absurd (false≢true h), λ h. absurd (none-some h.top ((f h.top).1 h.first)))
  same_tells m n (Some j) None f g = (λ h. absurd (false≢true h), λ h. absurd (none-some h.top ((g h.top).1 h.second)))
  same_tells m n (Some j) (Some k) f g = (
    λ h. let same = (Decides-eqb j k).0 h in record { top = j; first = (f j).0 refl; second = subst (λ i. InTopLevel p i n) (sym same) ((g k).0 refl) },
    λ h. (Decides-eqb j k).1 (one_top_level p local m j h.top ((f j).0 refl) h.first ∙ one_top_level p local n h.top k h.second ((g k).0 refl)),
  )

  pub one_top_is : (all : List (Option ℕ)) → all ≡ tops p (length p) → (m n : ℕ) → same_some (slice_index_or all m None) (slice_index_or all n None) ≡ is_same_top_level p m n
  one_top_is all is m n = ap₂ same_some (ap (λ xs. slice_index_or xs m None) is ∙ top_at m) (ap (λ xs. slice_index_or xs n None) is ∙ top_at n)
      ∙ one_test (same_some (top_level_of p m) (top_level_of p n)) (is_same_top_level p m n) (same_tells m n (top_level_of p m) (top_level_of p n) (finds_top m) (finds_top n)) (same_top_level_tells p m n)
    where
      one_test : (a b : Bool) → Decides a (SameTopLevel p m n) → Decides b (SameTopLevel p m n) → a ≡ b
      one_test true true d e = refl
      one_test true false d e = sym (e.1 (d.0 refl))
      one_test false true d e = d.1 (e.0 refl)
      one_test false false d e = refl
