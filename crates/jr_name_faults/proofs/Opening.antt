-- Where the last of the scopes of each name ends, with more of them.
use Rattle.std.proofs.Common.{◌≡◌, ◌⊎◌, refl, sym, ◌∙◌, ap, subst, inl, inr, ⊎_elim, arith, ℕ, zero, suc, ◌<◌, ◌≤◌, Bool, true, false, cond, List, [], ◌∷◌, length, replicate, nat_lt}
use Rattle.std.proofs.lemmas.Bool.{false≢true, cases_eq}
use Rattle.std.proofs.lemmas.Bool.Decides.{Decides-ltb}
use Rattle.std.proofs.lemmas.List.{get_or-set_same, get_or-set_other, length-replicate, length-set}
use Rattle.std.specs.Prelude.{slice_set}
use Rattle.jr_tree.specs.Rows.{Rows}
use Rattle.jr_plain.specs.Search.{has}
use Rattle.jr_places.specs.Names.{name_row}
use Rattle.jr_members.specs.Each.{AreBelow}
use Rattle.jr_members.proofs.Each.{has_front, front_has, rest_has, first_in, rest_in}
use Rattle.jr_name_faults.specs.Ends.{end_in, opened, all_opened, IsOpening, AreEndsOf}

-- ---- one scope more

opened_size : (ends : List ℕ) (x e : ℕ) → length (opened ends x e) ≡ length ends
opened_size ends x e = by (nat_lt (end_in ends x) e)
  where
    by : (b : Bool) → length (cond b (slice_set ends x e) ends) ≡ length ends
    by true = length-set ends x e
    by false = refl

-- what ends behind o ended there before, or is the new one
opened_at : (ends : List ℕ) (x e y o : ℕ) → x < length ends → o < end_in (opened ends x e) y → (o < end_in ends y) ⊎ ((x ≡ y) × (o < e))
opened_at ends x e y o lt h = by (nat_lt (end_in ends x) e) h
  where
    by : (b : Bool) → o < end_in (cond b (slice_set ends x e) ends) y → (o < end_in ends y) ⊎ ((x ≡ y) × (o < e))
    by false h = inl h
    by true h = ⊎_elim (λ same. inr (same, subst (λ v. o < v) (get_or-set_same ends x e 0 lt) (subst (λ z. o < end_in (slice_set ends x e) z) (sym same) h)))
        (λ apart. inl (subst (λ v. o < v) (get_or-set_other ends x y e 0 (λ same. apart (sym same))) h)) (cases_eq x y)

-- the new one ends no later than the last
opened_reach : (ends : List ℕ) (x e : ℕ) → x < length ends → e ≤ end_in (opened ends x e) x
opened_reach ends x e lt = by (nat_lt (end_in ends x) e) refl
  where
    by : (b : Bool) → nat_lt (end_in ends x) e ≡ b → e ≤ end_in (cond b (slice_set ends x e) ends) x
    by true is = let same = get_or-set_same ends x e 0 lt in omega arith
    by false is = let not_less : end_in ends x < e → ⊥ = λ less. false≢true (sym is ∙ (Decides-ltb (end_in ends x) e).1 less) in omega arith

-- no other one ends earlier than before
opened_kept : (ends : List ℕ) (x e y : ℕ) → x < length ends → end_in ends y ≤ end_in (opened ends x e) y
opened_kept ends x e y lt = by (nat_lt (end_in ends x) e) refl
  where
    by : (b : Bool) → nat_lt (end_in ends x) e ≡ b → end_in ends y ≤ end_in (cond b (slice_set ends x e) ends) y
    by false is = omega arith
    by true is = let less : end_in ends x < e = (Decides-ltb (end_in ends x) e).0 is in ⊎_elim
        (λ same. let now : end_in (slice_set ends x e) y ≡ e = subst (λ z. end_in (slice_set ends x e) z ≡ e) same (get_or-set_same ends x e 0 lt) in
        let was : end_in ends y < e = subst (λ z. end_in ends z < e) same less in omega arith)
        (λ apart. let now : end_in (slice_set ends x e) y ≡ end_in ends y = get_or-set_other ends x y e 0 (λ same. apart (sym same)) in omega arith) (cases_eq x y)

-- ---- the scopes

-- no scope is open
pub ends_start : (p : Rows) (ends : List ℕ) (Opens : ℕ → ℕ → Type 0) → ends ≡ replicate (length p) 0 → ((d e : ℕ) → Opens d e → ⊥) → AreEndsOf p ends Opens
ends_start p ends Opens is none = subst (λ l. AreEndsOf p l Opens) (sym is) (record {
  size = length-replicate (length p) 0;
  sound = λ x o lt. absurd (never_in x o (length p) lt);
  whole = λ d e h. absurd (none d e h);
})
  where
    zero_in : (x n : ℕ) → end_in (replicate n 0) x ≡ 0
    zero_in x zero = refl
    zero_in zero (suc n) = refl
    zero_in (suc x) (suc n) = zero_in x n

    never_in : (x o n : ℕ) → o < end_in (replicate n 0) x → ⊥
    never_in x o n lt = let none = zero_in x n in omega arith

-- the same scopes, told in another way
pub ends_like : {p : Rows} {ends : List ℕ} {P Q : ℕ → ℕ → Type 0} → AreEndsOf p ends P → ((d e : ℕ) → P d e → Q d e) → ((d e : ℕ) → Q d e → P d e) → AreEndsOf p ends Q
ends_like h out into = record {
  size = h.size;
  sound = λ x o lt. let i = h.sound x o lt in (i.0, i.1, out i.0 i.1 i.2, i.3, i.4);
  whole = λ d e q. h.whole d e (into d e q);
}

-- one more
pub ends_more : {p : Rows} {ends : List ℕ} {P : ℕ → ℕ → Type 0} (n x e : ℕ) → AreEndsOf p ends P → name_row p n ≡ x → x < length p → AreEndsOf p (opened ends x e) (λ d z. P d z ⊎ ((n ≡ d) × (e ≡ z)))
ends_more {p} {ends} {P} n x e h named lt = record {
  size = opened_size ends x e ∙ h.size;
  sound = λ y o less. ⊎_elim (λ k. let i = h.sound y o k in (i.0, i.1, inl i.2, i.3, i.4)) (λ k. (n, e, inr (refl, refl), named ∙ k.0, k.1)) (opened_at ends x e y o inside less);
  whole = λ d z. ⊎_elim (λ k. let was = h.whole d z k in let now = opened_kept ends x e (name_row p d) inside in omega arith)
      (λ k. subst (λ z. z ≤ end_in (opened ends x e) (name_row p d)) k.1 (subst (λ y. e ≤ end_in (opened ends x e) y) (sym named ∙ ap (name_row p) k.0) (opened_reach ends x e inside)));
}
  where
    inside : x < length ends
    inside = let size = h.size in omega arith

-- one more for each of some rows
pub ends_all : {p : Rows} {P : ℕ → ℕ → Type 0} (e : ℕ) (rows ends : List ℕ) → ((d : ℕ) → has rows d ≡ true → name_row p d < length p) → AreEndsOf p ends P
    → AreEndsOf p (all_opened p e rows ends) (λ d z. P d z ⊎ ((has rows d ≡ true) × (e ≡ z)))
ends_all e [] ends below h = ends_like h (λ d z k. inl k) (λ d z. ⊎_elim (λ k. k) (λ k. absurd (false≢true k.0)))
ends_all {p} {P} e (r ∷ rows) ends below h = ends_like (ends_all e rows (opened ends (name_row p r) e) (λ d k. below d (rest_has r d rows k)) (ends_more r (name_row p r) e h refl (below r (front_has r rows))))
    (λ d z. ⊎_elim (⊎_elim (λ k. inl k) (λ k. inr (subst (λ d. has (r ∷ rows) d ≡ true) k.0 (front_has r rows), k.1))) (λ k. inr (rest_has r d rows k.0, k.1)))
    (λ d z. ⊎_elim (λ k. inl (inl k)) (λ k. ⊎_elim (λ same. inl (inr (same, k.1))) (λ more. inr (more, k.1)) (has_front r d rows k.0)))

-- ---- the loop

pub opening_start : (p : Rows) (e : ℕ) (rows ends : List ℕ) → AreBelow (length p) rows → IsOpening p e (all_opened p e rows ends) rows ends
opening_start p e rows ends below = record { below = below; is = refl }

pub opening_item : {p : Rows} {e : ℕ} {target rest ends : List ℕ} (d : ℕ) (more : List ℕ) → rest ≡ d ∷ more → IsOpening p e target rest ends → d < length p
opening_item d more is h = h.below.each d (first_in d more _ is)

pub opening_next : {p : Rows} {e : ℕ} {target rest ends : List ℕ} (d x : ℕ) (more now : List ℕ) → rest ≡ d ∷ more → IsOpening p e target rest ends → x ≡ name_row p d → now ≡ opened ends x e → IsOpening p e target more now
opening_next {p} {e} {target} {rest} {ends} d x more now is h named opens = record {
  below = record { each = λ k i. h.below.each k (rest_in d k more rest is i) };
  is = ap (all_opened p e more) (opens ∙ ap (λ x. opened ends x e) named) ∙ ap (λ l. all_opened p e l ends) (sym is) ∙ h.is;
}

pub opening_end : {p : Rows} {e : ℕ} {target rest ends : List ℕ} → rest ≡ [] → IsOpening p e target rest ends → ends ≡ target
opening_end {p} {e} {target} {rest} {ends} none h = ap (λ l. all_opened p e l ends) (sym none) ∙ h.is
