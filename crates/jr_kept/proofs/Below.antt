-- Rows right below a row, and blocks of `finally`.
use Rattle.std.proofs.Common.{◌≡◌, refl, sym, ◌∙◌, subst, ⊎_elim, arith, ℕ, zero, suc, ◌+◌, ◌-◌, ◌<◌, ◌≤◌, Bool, true, false, cond, if◌then◌else◌, List, [], ◌∷◌, filter, length, Option, Some, None, nat_lt, Decides}
use Rattle.std.specs.List.{AllByRecursion}
use Rattle.std.proofs.lemmas.Bool.{false≢true, cases_lt}
use Rattle.std.proofs.lemmas.Bool.Decides.{Decides-eqb, Decides-ltb}
use Rattle.std.proofs.lemmas.Option.{none-some, same_Some}
use Rattle.jr_tree.specs.declared.label.Label.{Label}
use Rattle.jr_tree.specs.declared.label.Label.TheVariants as is
use Rattle.jr_tree.specs.Rows.{Rows, label, parent, end}
use Rattle.jr_tree.specs.Tree.{IsTree}
use Rattle.jr_flow_defs.specs.Acts.{siblings, children, last_or, last}
use Rattle.jr_kept.specs.Waiting.{try_end_by, try_end, ends_at, is_finally, IsBelow}

-- ---- blocks of `finally`

end_tells : (l : Label) (e x : ℕ) → try_end_by l e ≡ Some x → (l ≡ is.Try true) × (e ≡ x)
end_tells (is.Try true) e x h = (refl, same_Some e x h)
end_tells (is.Try false) e x h = absurd (none-some x h)
end_tells _ e x h = absurd (none-some x h)

-- a `try` with a `finally` stands above the row, and ends where that does
pub finally_tells : (p : Rows) (k : ℕ) → is_finally p k ≡ true → (label p (parent p k) ≡ is.Try true) × (end p k ≡ end p (parent p k))
finally_tells p k h = by (try_end p (parent p k)) refl h
  where
    by : (o : Option ℕ) → try_end p (parent p k) ≡ o → ends_at o (end p k) ≡ true → (label p (parent p k) ≡ is.Try true) × (end p k ≡ end p (parent p k))
    by None e h = absurd (false≢true h)
    by (Some x) e h = let both = end_tells (label p (parent p k)) (end p (parent p k)) x e in (both.0, (Decides-eqb (end p k) x).0 h ∙ sym both.1)

pub finally_is : (p : Rows) (k n : ℕ) → parent p k ≡ n → label p n ≡ is.Try true → end p k ≡ end p n → is_finally p k ≡ true
finally_is p k n under e same = subst (λ m. ends_at (try_end p m) (end p k) ≡ true) (sym under)
    (subst (λ l. ends_at (try_end_by l (end p n)) (end p k) ≡ true) (sym e) ((Decides-eqb (end p k) (end p n)).1 same))

pub not_true : (b : Bool) → (b ≡ true → ⊥) → b ≡ false
not_true true h = absurd (h refl)
not_true false h = refl

-- below any other row stands none
pub none_finally : (p : Rows) (n k : ℕ) → (label p n ≡ is.Try true → ⊥) → IsBelow p n k → is_finally p k ≡ false
none_finally p n k other b = not_true (is_finally p k) (λ h. other (subst (λ m. label p m ≡ is.Try true) b.under (finally_tells p k h).0))

-- nor is the first of two rows one
pub first_free : (p : Rows) (n k : ℕ) → IsBelow p n k → end p k < end p n → is_finally p k ≡ false
first_free p n k b less = not_true (is_finally p k) (λ h. let same = subst (λ m. end p k ≡ end p m) b.under (finally_tells p k h).1 in absurd (omega (arith, less, same)))

-- ---- siblings

pub all_filter : (P : ℕ → Type 0) (test : ℕ → Bool) (rows : List ℕ) → AllByRecursion P rows → AllByRecursion P (filter test rows)
all_filter P test [] h = tt
all_filter P test (k ∷ rows) h = by (filter test rows) (test k) h.0 (all_filter P test rows h.1)
  where
    by : (xs : List ℕ) (b : Bool) → P k → AllByRecursion P xs → AllByRecursion P (cond b (k ∷ xs) xs)
    by xs true now more = (now, more)
    by xs false now more = more

no_siblings : (p : Rows) (room k stop : ℕ) → stop ≤ k → siblings p room k stop ≡ []
no_siblings p zero k stop h = refl
no_siblings p (suc room) k stop h = by (nat_lt k stop) (Decides-ltb k stop)
  where
    by : (b : Bool) → Decides b (k < stop) → (if b then k ∷ siblings p room (end p k) stop else []) ≡ []
    by true d = let less = d.0 refl in absurd (omega (arith, less, h))
    by false d = refl

-- the row is the last right below n
pub record IsLast (p : Rows) (n k : ℕ) : Type 0 where
  pub below : IsBelow p n k
  pub ends : end p k ≡ end p n

module _ (p : Rows) (tree : IsTree p) where
  -- a row right below n begins at k, or n ends there
  pub record Place (n k : ℕ) : Type 0 where
    pub behind : n < k
    pub upto : k ≤ end p n
    pub under : k < end p n → parent p k ≡ n

  pub at_place : (n k : ℕ) → Place n k → k < end p n → IsBelow p n k
  at_place n k h less = record { behind = h.behind; within = less; under = h.under less }

  pub first_place : (n : ℕ) → n < length p → Place n (n + 1)
  first_place n few = record {
    behind = omega arith;
    upto = let up = tree.nested n in omega (arith, up);
    under = λ less. let over = tree.last n few in let low = tree.inner n (n + 1) (omega arith) less in let high = tree.up (n + 1) (omega (arith, less, over)) (omega arith) in omega (arith, low, high);
  }

  -- the parent of the row behind k, which stands right below n
  same_parent : (n k : ℕ) → n < length p → IsBelow p n k → end p k < end p n → parent p (end p k) ≡ n
  same_parent n k few b less =
      let e = end p k in
      let m = parent p e in
      let over = tree.last n few in
      let behind = b.behind in
      let nested = tree.nested k in
      let low = tree.inner n e (omega (arith, behind, nested)) less in
      let high = tree.up e (omega (arith, less, over)) (omega (arith, nested)) in
      let held = tree.held e (omega (arith, less, over)) (omega (arith, nested)) in
      let no_more : n < m → ⊥ = λ more. ⊎_elim
      (λ before. let up = tree.inner m k before (omega (arith, nested, held)) in let under = b.under in absurd (omega (arith, up, under, more)))
      (λ from. ⊎_elim
      (λ inside. let ends = tree.apart k m inside high in absurd (omega (arith, ends, held)))
      (λ to. let same : m ≡ k = omega (arith, from, to) in let ends = subst (λ z. e < end p z) same held in absurd (omega (arith, ends)))
      (cases_lt k m))
      (cases_lt m k) in
      ⊎_elim (λ more. absurd (no_more more)) (λ le. omega (arith, low, le)) (cases_lt n m)

  pub next_place : (n k : ℕ) → n < length p → IsBelow p n k → Place n (end p k)
  next_place n k few b = record {
    behind = let behind = b.behind in let nested = tree.nested k in omega (arith, behind, nested);
    upto = tree.apart n k b.behind b.within;
    under = λ less. same_parent n k few b less;
  }

  pub siblings_below : (n room k stop : ℕ) → n < length p → Place n k → stop ≤ end p n → AllByRecursion (IsBelow p n) (siblings p room k stop)
  siblings_below n zero k stop few h upto = tt
  siblings_below n (suc room) k stop few h upto = by (nat_lt k stop) (Decides-ltb k stop)
      (λ less. let b = at_place n k h (omega (arith, less, upto)) in (b, siblings_below n room (end p k) stop few (next_place n k few b) upto))
    where
      by : (b : Bool) → Decides b (k < stop) → (k < stop → AllByRecursion (IsBelow p n) (k ∷ siblings p room (end p k) stop)) → AllByRecursion (IsBelow p n) (if b then k ∷ siblings p room (end p k) stop else [])
      by true d rest = rest (d.0 refl)
      by false d rest = tt

  pub children_below : (n : ℕ) → n < length p → AllByRecursion (IsBelow p n) (children p n)
  children_below n few = siblings_below n (end p n - n) (n + 1) (end p n) few (first_place n few) (omega arith)

  -- ---- the last row

  last_sibling : (n room k x : ℕ) → n < length p → IsBelow p n k → end p n ≤ k + room → IsLast p n (last_or x (siblings p room k (end p n)))
  last_sibling n zero k x few b enough = let within = b.within in absurd (omega (arith, enough, within))
  last_sibling n (suc room) k x few b enough = subst (λ t. IsLast p n (last_or x (if t then k ∷ siblings p room (end p k) (end p n) else []))) (sym ((Decides-ltb k (end p n)).1 b.within))
      (⊎_elim
      (λ less. let nested = tree.nested k in last_sibling n room (end p k) k few (at_place n (end p k) (next_place n k few b) less) (omega (arith, enough, nested)))
      (λ done. let upto = (next_place n k few b).upto in subst (λ xs. IsLast p n (last_or k xs)) (sym (no_siblings p room (end p k) (end p n) done)) (record { below = b; ends = omega (arith, done, upto) }))
      (cases_lt (end p k) (end p n)))

  pub last_below : (n : ℕ) → n < length p → n + 1 < end p n → IsLast p n (last p n)
  last_below n few less = last_sibling n (end p n - n) (n + 1) n few (at_place n (n + 1) (first_place n few) less) (omega (arith, less))

  -- there is one last row
  pub one_last : (n k j : ℕ) → IsLast p n k → IsLast p n j → k ≡ j
  one_last n k j h g = ⊎_elim
      (λ less. absurd (later k j h g less))
      (λ le. ⊎_elim (λ less. absurd (later j k g h less)) (λ ge. omega (arith, le, ge)) (cases_lt j k))
      (cases_lt k j)
    where
      later : (k j : ℕ) → IsLast p n k → IsLast p n j → k < j → ⊥
      later k j h g less = let within = g.below.within in let ends = h.ends in let up = tree.inner k j less (omega (arith, within, ends)) in let under = g.below.under in let behind = h.below.behind in absurd (omega (arith, up, under, behind))
