-- Where the rows inside a row stand.
use Rattle.std.proofs.Common.{◌≡◌, ◌≢◌, refl, sym, ◌∙◌, ap, subst, ⊎_elim, arith, ℕ, zero, suc, ◌+◌, ◌<◌, ◌≤◌, Bool, true, false, not, ◌&&◌, length, Some, nat_eq}
use Rattle.std.proofs.lemmas.Bool.{false≢true, cases_eq, cases_lt, cases_Bool, ltb-true, ltb-false}
use Rattle.std.proofs.lemmas.Bool.Decides.{Decides-eqb}
use Rattle.std.proofs.lemmas.List.{get_or_past}
use Rattle.jr_tree.specs.declared.label.Label.TheVariants as is
use Rattle.jr_tree.specs.declared.row.Row.{Row}
use Rattle.jr_tree.specs.Rows.{Rows, label, parent, end}
use Rattle.jr_tree.specs.Tree.{IsTree}
use Rattle.jr_plain.proofs.Children.{IsChild, child_below}
use Rattle.jr_assign.specs.Changes.{Facts}
use Rattle.jr_assign.specs.Assigned.{last_part, is_last, has_last}

pub both_true : (a b : Bool) → (a && b) ≡ true → (a ≡ true) × (b ≡ true)
both_true true true e = (refl, refl)
both_true true false e = absurd (false≢true e)
both_true false b e = absurd (false≢true e)

pub not_true : (a : Bool) → not a ≡ true → a ≡ false
not_true true e = absurd (false≢true e)
not_true false e = refl

pub eq_true : (m n : ℕ) → m ≡ n → nat_eq m n ≡ true
eq_true m n e = (Decides-eqb m n).1 e

pub eq_false : (m n : ℕ) → m ≢ n → nat_eq m n ≡ false
eq_false m n apart = ⊎_elim (λ t. absurd (apart ((Decides-eqb m n).0 t))) (λ f. f) (cases_Bool (nat_eq m n))

-- past the end nothing stands
pub past_label : (p : Rows) (n : ℕ) → length p ≤ n → label p n ≡ is.Skip
past_label p n past = ap (λ (x : Row). x.label) (get_or_past p n _ past)

-- a child of n that holds the row m
pub record HoldsIn (p : Rows) (n m : ℕ) : Type 0 where
  pub at : ℕ
  pub child : IsChild p n at
  pub low : at ≤ m
  pub high : m < end p at

-- the last child
pub record IsLastChild (p : Rows) (n c : ℕ) : Type 0 where
  pub child : IsChild p n c
  pub last : (m : ℕ) → IsChild p n m → m ≤ c

-- a row stands there that is a child of n, or n has ended
abbrev pub IsStart : Rows → ℕ → ℕ → Type 0
IsStart p n m = m < end p n → IsChild p n m

module _ (p : Rows) (tree : IsTree p) where
  pub inside_ends : (n m : ℕ) → n < length p → m < end p n → m < length p
  inside_ends n m lt h = let most = tree.last n lt in omega arith

  pub child_ends : (n c : ℕ) → IsChild p n c → (c < end p n) × (end p c ≤ end p n)
  child_ends n c h = let lt = h.0 in let inside = child_below p tree n c h in let held = tree.held c inside (omega arith) in let at : c < end p n = subst (λ q. c < end p q) h.1 held in (at, tree.apart n c lt at)

  -- the next child stands where this one ends
  pub next_child : (n k m : ℕ) → IsChild p n k → k < m → IsChild p n m → end p k ≤ m
  next_child n k m child lt h = ⊎_elim (λ inside. let low = tree.inner k m lt inside in let up = h.1 in let after = child.0 in absurd (omega arith)) (λ le. le) (cases_lt m (end p k))

  -- each row inside stands in a child
  pub holds_in : (room n m : ℕ) → m ≤ room → n < length p → n < m → m < end p n → HoldsIn p n m
  holds_in zero n m small there lt inside = absurd (omega arith)
  holds_in (suc room) n m small there lt inside =
      let below = inside_ends n m there inside in
      let over = tree.inner n m lt inside in
      let up = tree.up m below (omega arith) in
      let held = tree.held m below (omega arith) in
      ⊎_elim
      (λ e. record { at = m; child = (lt, sym e); low = omega arith; high = tree.nested m })
      (λ apart. let ends = tree.apart n m lt inside in
      let h = holds_in room n (parent p m) (omega arith) there (omega arith) (omega arith) in
      let low = h.low in let high = h.high in
      record { at = h.at; child = h.child; low = omega arith; high = within h.at low high held })
      (cases_eq n (parent p m))
    where
      within : {q m : ℕ} (c : ℕ) → c ≤ q → q < end p c → m < end p q → m < end p c
      within {q} {m} c low high held = ⊎_elim (λ e. subst (λ c. m < end p c) (sym e) held) (λ apart. let ends = tree.apart c q (omega arith) high in omega arith) (cases_eq c q)

  -- the last part is the last child
  pub last_told : (n c : ℕ) → is_last (Some c) p n ≡ true → IsLastChild p n c
  last_told n c t = let parts = both_true _ _ t in let more = both_true _ _ parts.1 in
      let lt = ltb-true n c parts.0 in let up : parent p c ≡ n = (Decides-eqb (parent p c) n).0 more.0 in
      let ends = ltb-false (end p c) (end p n) (not_true _ more.1) in
      record {
        child = (lt, up);
        last = λ m child. ⊎_elim (λ less. let next = next_child n c m (lt, up) less child in let inside = (child_ends n m child).0 in absurd (omega arith)) (λ le. le) (cases_lt c m);
      }

  pub last_tells : (f : Facts) → ((n : ℕ) → has_last p f n ≡ true) → (n c : ℕ) → last_part f n ≡ Some c → IsLastChild p n c
  last_tells f lasts n c e = last_told n c (sym (ap (λ o. is_last o p n) e) ∙ lasts n)

  -- what stands behind where the last child begins stands in it
  pub in_last : (n c m : ℕ) → n < length p → IsLastChild p n c → c ≤ m → m < end p n → m < end p c
  in_last n c m there last le inside =
      let after = last.child.0 in
      let h = holds_in m n m (omega arith) there (omega arith) inside in
      let low = h.low in let high = h.high in
      let least = last.last h.at h.child in
      ⊎_elim (λ e. subst (λ x. m < end p x) e high) (λ apart. let next = next_child n h.at c h.child (omega arith) last.child in absurd (omega arith)) (cases_eq h.at c)

  -- what stands before it stands in another
  pub before_last : (n c m : ℕ) → n < length p → IsLastChild p n c → n < m → m < c → end p m ≤ c
  before_last n c m there last lt less =
      let after = child_ends n c last.child in let in_c = after.0 in
      let h = holds_in m n m (omega arith) there lt (omega arith) in
      let low = h.low in let high = h.high in
      let next = next_child n h.at c h.child (omega arith) last.child in
      ⊎_elim (λ e. subst (λ x. end p x ≤ c) e next) (λ apart. let ends = tree.apart h.at m (omega arith) high in omega arith) (cases_eq h.at m)

  -- ---- where a child of a row may begin

  pub first_child : (n : ℕ) → n < length p → n + 1 < end p n → IsChild p n (n + 1)
  first_child n there inside = let most = tree.last n there in let over = tree.inner n (n + 1) (omega arith) inside in let up = tree.up (n + 1) (omega arith) (omega arith) in (omega arith, omega arith)

  pub first_starts : (n : ℕ) → n < length p → IsStart p n (n + 1)
  first_starts n there inside = first_child n there inside

  pub next_starts : (n k : ℕ) → n < length p → IsChild p n k → IsStart p n (end p k)
  next_starts n k there child inside =
      let after = child.0 in let nested = tree.nested k in
      let h = holds_in (end p k) n (end p k) (omega arith) there (omega arith) inside in
      let low = h.low in let high = h.high in
      ⊎_elim (λ at. subst (IsChild p n) at h.child)
      (λ apart. ⊎_elim
      (λ lt. let next = next_child n k h.at child lt h.child in absurd (omega arith))
      (λ le. ⊎_elim (λ same. let ends = ap (end p) same in absurd (omega arith)) (λ less. let next = next_child n h.at k h.child (omega arith) child in absurd (omega arith)) (cases_eq h.at k))
      (cases_lt k h.at))
      (cases_eq h.at (end p k))

  -- no child goes past it
  pub ends_before : (n k m : ℕ) → m ≤ end p n → IsStart p n m → IsChild p n k → k < m → end p k ≤ m
  ends_before n k m within starts child lt = let ends = (child_ends n k child).1 in ⊎_elim (λ inside. next_child n k m child lt (starts inside)) (λ le. omega arith) (cases_lt m (end p n))
