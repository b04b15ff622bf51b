-- The rows right below a row, one at a time.
use Rattle.std.proofs.Common.{◌≡◌, refl, sym, ◌∙◌, ap, arith, ℕ, zero, suc, ◌<◌, Bool, true, false, cond, List, [], ◌∷◌, ◌++◌, Some, None, nat_eq, append_assoc, append-nil}
use Rattle.std.proofs.lemmas.Option.{none-some, same_Some}
use Rattle.jr_tree.specs.Rows.{Rows, parent, end}
use Rattle.jr_tree.specs.Tree.{IsTree}
use Rattle.jr_plain.specs.Enclosing.{children, children_from}
use Rattle.jr_places.specs.Childs.{end_of_child, ChildrenTo}

by_some : (b : Bool) (k e at : ℕ) (f : ℕ → List ℕ) → cond b (Some e) None ≡ Some at → cond b (k ∷ f e) [] ≡ k ∷ f at
by_some true k e at f h = ap (λ e. k ∷ f e) (same_Some e at h)
by_some false k e at f h = absurd (none-some at h)

by_none : (b : Bool) (k e : ℕ) (f : ℕ → List ℕ) → cond b (Some e) None ≡ None → cond b (k ∷ f e) [] ≡ []
by_none true k e f h = absurd (none-some e (sym h))
by_none false k e f h = refl

-- one child more is done
pub child_more : {p : Rows} {n m k : ℕ} {done : List ℕ} (j e : ℕ) (more : List ℕ) → ChildrenTo p n m k done → IsTree p → Some e ≡ end_of_child p n k → suc j ≡ m → more ≡ done ++ k ∷ []
    → ChildrenTo p n j e more
child_more {p = p} {n = n} {m = m} {k = k} {done = done} j e more before tree h room pushed = record {
  after = by (nat_eq (parent p k) n) (sym h);
  rest = ap (λ xs. xs ++ children_from p n j e) pushed ∙ append_assoc done (k ∷ []) (children_from p n j e)
      ∙ ap (λ xs. done ++ xs) (sym (by_some (nat_eq (parent p k) n) k (end p k) e (children_from p n j) (sym h))) ∙ ap (λ m. done ++ children_from p n m k) room ∙ before.rest;
}
  where
    by : (b : Bool) → cond b (Some (end p k)) None ≡ Some e → n < e
    by true h = let grows = tree.nested k in let same = same_Some (end p k) e h in let lt = before.after in omega arith
    by false h = absurd (none-some e h)

-- there is none left
pub child_none : {p : Rows} {n m k : ℕ} {done : List ℕ} → ChildrenTo p n m k done → None ≡ end_of_child p n k → done ≡ children p n
child_none {p = p} {n = n} {m = zero} {k = k} {done = done} before h = sym (append-nil done) ∙ before.rest
child_none {p = p} {n = n} {m = suc m} {k = k} {done = done} before h = sym (append-nil done) ∙ ap (λ xs. done ++ xs) (sym (by_none (nat_eq (parent p k) n) k (end p k) (children_from p n m) (sym h))) ∙ before.rest

-- no room is left
pub child_last : {p : Rows} {n m k : ℕ} {done : List ℕ} → ChildrenTo p n m k done → m ≡ 0 → done ≡ children p n
child_last {p = p} {n = n} {m = m} {k = k} {done = done} before room = sym (append-nil done) ∙ ap (λ m. done ++ children_from p n m k) (sym room) ∙ before.rest
