-- The first type that a name in a header meets and that was not settled before, a row at a time.
use Rattle.std.proofs.Common.{◌≡◌, ◌⊎◌, refl, sym, ◌∙◌, ap, subst, inl, inr, ⊎_elim, arith, ℕ, suc, ◌+◌, ◌<◌, ◌≤◌, Bool, true, false, ◌||◌, List, [], ◌∷◌, length, Option, Some, None, nat_eq}
use Rattle.std.specs.Option.{option_or}
use Rattle.std.proofs.lemmas.Option.{none-some}
use Rattle.std.proofs.lemmas.Bool.{false≢true, cases_lt}
use Rattle.std.proofs.lemmas.Bool.Decides.{Decides-eqb}
use Rattle.jr_tree.specs.Rows.{Rows, end}
use Rattle.jr_tree.specs.Tree.{IsTree}
use Rattle.jr_defs.specs.Referents.{Table}
use Rattle.jr_defs.specs.Headers.{IsIdentifierOf, IsFirstOf, IsLookedForIn, ComesBefore}
use Rattle.jr_plain.specs.Search.{has, Lists}
use Rattle.jr_members.proofs.Each.{item_in}
use Rattle.jr_headers.specs.Rounds.{look_type}
use Rattle.jr_bind.specs.Edges.{FindsType, IsBefore, IsPlace, IsOpenAt, IsScan, item, ArePassed, IsLookedAt}

or_none : (a b : Option ℕ) → option_or a b ≡ None → (a ≡ None) × (b ≡ None)
or_none None None e = (refl, refl)
or_none None (Some y) e = absurd (none-some y (sym e))
or_none (Some x) b e = absurd (none-some x (sym e))

or_some : (a b : Option ℕ) (s : ℕ) → option_or a b ≡ Some s → (a ≡ Some s) ⊎ ((a ≡ None) × (b ≡ Some s))
or_some None b s e = inr (refl, e)
or_some (Some x) b s e = inl e

side : (a b : ℕ) → a ≤ b → (a ≡ b) ⊎ (a < b)
side a b le = grind arith

-- each item of a list stands at some index
index_of : (all : List ℕ) (x : ℕ) → has all x ≡ true → (a : ℕ) × (a < length all) × (item all a ≡ x)
index_of [] x h = absurd (false≢true h)
index_of (y ∷ more) x h = by (nat_eq y x) refl h (index_of more x)
  where
    by : (b : Bool) → nat_eq y x ≡ b → has (y ∷ more) x ≡ true → (has more x ≡ true → (a : ℕ) × (a < length more) × (item more a ≡ x)) → (a : ℕ) × (a < length (y ∷ more)) × (item (y ∷ more) a ≡ x)
    by true e h rest = (0, omega arith, (Decides-eqb y x).0 e)
    by false e h rest = let z = rest (subst (λ b. (b || has more x) ≡ true) e h) in (suc z.0, (let lt = z.1 in omega arith), z.2)

-- an order of two rows at one name
comes : (p : Rows) (n k m j : ℕ) → ComesBefore p n k m j → (end p k ≤ j) ⊎ ((j < k) × (k < end p j))
comes p n k _ j (ComesBefore.by_import le) = inl le
comes p n k _ j (ComesBefore.within low lt) = inr (low, lt)

module _ (p : Rows) (u : Table) (rank : ℕ → ℕ) (c own till : ℕ) where
  pub scan_none : (from : ℕ) → from ≡ till → IsScan p u rank c own from till None
  scan_none from e = record {
    whole = λ k le lt. absurd (omega arith);
    same = λ k le lt no'. absurd (omega arith);
    none = λ z k s le lt. absurd (omega arith);
    some = λ s z. absurd (none-some s z);
  }

  pub scan_next : (k next : ℕ) (first open_type : Option ℕ) → next ≡ k + 1 → k < till → IsScan p u rank c own next till first → end p k ≡ till
      → ((k ≡ own → ⊥) → u k ≡ look_type p u k) → IsOpenAt p u rank c k open_type → IsScan p u rank c own k till (option_or first open_type)
  scan_next k next first open_type e lt h ends same at = record {
    whole = λ j le lt. ⊎_elim (λ z. subst (λ j. end p j ≡ till) z ends) (λ up. h.whole j (omega arith) lt) (side k j le);
    same = λ j le lt no'. ⊎_elim (λ z. subst (λ j. u j ≡ look_type p u j) z (same (λ w. no' (sym z ∙ w)))) (λ up. h.same j (omega arith) lt no') (side k j le);
    none = λ z j s le lt f. let both = or_none first open_type z in
        ⊎_elim (λ w. at.none both.1 s (subst (λ j. FindsType p u j s) (sym w) f)) (λ up. h.none both.0 j s (omega arith) lt f) (side k j le);
    some = λ s z. ⊎_elim (λ w. let it = h.some s w in (it.0, (let up = it.1 in omega arith), it.2, it.3, it.4, it.5))
        (λ w. let it = at.some s w.1 in (k, omega arith, lt, it.0, it.1, λ j r up lt f. h.none w.0 j r (omega arith) lt f)) (or_some first open_type s z);
  }

module _ (p : Rows) (u : Table) (rank : ℕ → ℕ) (c : ℕ) (imports : List ℕ) where
  pub passed_none : ArePassed p u rank c imports 0 0 None
  passed_none = record {
    whole = λ a k lt. absurd (omega arith);
    same = λ a k lt. absurd (omega arith);
    apart = λ a b low lt. absurd (omega arith);
    past = λ a lt. absurd (omega arith);
    none = λ z a k s lt. absurd (omega arith);
    some = λ s z. absurd (none-some s z);
  }

  pub passed_next : (n behind i : ℕ) (first open_type : Option ℕ) → item imports n ≡ i → behind ≤ i → i + 1 < end p (i + 1) → ArePassed p u rank c imports n behind first
      → IsScan p u rank c i (i + 1) (end p (i + 1)) open_type → ArePassed p u rank c imports (n + 1) (end p (i + 1)) (option_or first open_type)
  passed_next n behind i first open_type is le some_rows h scan = record {
    whole = λ a k lt q. ⊎_elim (λ z. let e = here a z in subst (λ x. end p k ≡ end p (x + 1)) (sym e) (let w = at a k z q in scan.whole k w.from w.before)) (λ low. h.whole a k low q) (last a lt);
    same = λ a k lt q. ⊎_elim (λ z. let w = at a k z q in let from = w.from in scan.same k from w.before (λ o. omega arith)) (λ low. h.same a k low q) (last a lt);
    apart = λ a b low lt. ⊎_elim (λ z. let e = here b z in let past = h.past a (omega arith) in omega arith) (λ up. h.apart a b low up) (last b lt);
    past = λ a lt. ⊎_elim (λ z. let e = ap (λ x. end p (x + 1)) (here a z) in omega arith) (λ low. let past = h.past a low in omega arith) (last a lt);
    none = λ z a k s lt q f. let both = or_none first open_type z in
        ⊎_elim (λ z. let w = at a k z q in scan.none both.1 k s w.from w.before f) (λ low. h.none both.0 a k s low q f) (last a lt);
    some = λ s z. ⊎_elim (λ w. let it = h.some s w in (it.0, it.1, (let low = it.2 in omega arith), it.3, it.4, it.5, it.6, it.7))
        (λ w. let it = scan.some s w.1 in (n, it.0, omega arith, into it.0 (record { from = it.1; before = it.2 }), it.3, it.4, λ j r up q f. (let v = at n j refl q in it.5 j r up v.before f), λ b j r low q f. h.none w.0 b j r low q f)) (or_some first open_type s z);
  }
    where
      last : (a : ℕ) → a < n + 1 → (a ≡ n) ⊎ (a < n)
      last a lt = grind arith

      here : (a : ℕ) → a ≡ n → item imports a ≡ i
      here a z = ap (item imports) z ∙ is

      at : (a k : ℕ) → a ≡ n → IsIdentifierOf p (item imports a + 1) k → IsIdentifierOf p (i + 1) k
      at a k z q = subst (λ x. IsIdentifierOf p (x + 1) k) (here a z) q

      into : (k : ℕ) → IsIdentifierOf p (i + 1) k → IsIdentifierOf p (item imports n + 1) k
      into k q = subst (λ x. IsIdentifierOf p (x + 1) k) (sym is) q

-- the places of one name
module _ (p : Rows) (tree : IsTree p) (u : Table) (rank : ℕ → ℕ) (c n m : ℕ) (is : IsFirstOf p n m) (imports : List ℕ) (lists : Lists imports (IsLookedForIn p u m)) (behind : ℕ) (le : behind ≤ n)
    (first own_first : Option ℕ) (passed : ArePassed p u rank c imports (length imports) behind first) (scan : IsScan p u rank c n n (end p n) own_first) where
  -- a place by the index of its import
  data At : ℕ → Type 0 where
    own : {k : ℕ} → IsIdentifierOf p n k → At k
    imported : {a k : ℕ} → a < length imports → IsIdentifierOf p (item imports a + 1) k → At k

  only : (x : ℕ) → IsFirstOf p n x → x ≡ m
  only x f = let a = f.last in let b = is.last in omega arith

  at : (k : ℕ) → IsPlace p u n k → At k
  at k (inl i) = At.own i
  at k (inr q) = let z = index_of imports q.1 ((lists q.1).1 (subst (λ x. IsLookedForIn p u x q.1) (only q.0 q.2) q.3)) in At.imported z.1 (subst (λ x. IsIdentifierOf p (x + 1) k) (sym z.2) q.4)

  place : (k : ℕ) → At k → IsPlace p u n k
  place k (At.own i) = inl i
  place k (At.imported {a = a} lt q) = inr (m, item imports a, is, (lists (item imports a)).0 (item_in imports a 0 lt), q)

  abbrev Order : ℕ → ℕ → Type 0
  Order j k = (j ≡ k) ⊎ (ComesBefore p n j n k ⊎ ComesBefore p n k n j)

  within : (j k till : ℕ) → j < till → k < till → end p j ≡ till → end p k ≡ till → Order j k
  within j k till jt kt je ke = ⊎_elim (λ lt. inr (inr (ComesBefore.within lt (omega arith)))) (λ le. ⊎_elim (λ z. inl (sym z)) (λ lt. inr (inl (ComesBefore.within lt (omega arith)))) (side k j le)) (cases_lt j k)

  order : (j k : ℕ) → At j → At k → Order j k
  order j k (At.own f) (At.own g) = within j k (end p n) f.before g.before (scan.whole j f.from f.before) (scan.whole k g.from g.before)
  order j k (At.own f) (At.imported {a = a} lt q) = let e = passed.whole a k lt q in let past = passed.past a lt in let from = f.from in inr (inr (ComesBefore.by_import (omega arith)))
  order j k (At.imported {a = a} lt q) (At.own f) = let e = passed.whole a j lt q in let past = passed.past a lt in let from = f.from in inr (inl (ComesBefore.by_import (omega arith)))
  order j k (At.imported {a = a} lt q) (At.imported {a = b} low r) = ⊎_elim
      (λ up. let e = passed.whole a j lt q in let past = passed.apart a b up low in let from = r.from in inr (inl (ComesBefore.by_import (omega arith))))
      (λ le. ⊎_elim (λ z. let w = subst (λ x. IsIdentifierOf p (item imports x + 1) k) z r in within j k (end p (item imports a + 1)) q.before w.before (passed.whole a j lt q) (passed.whole a k lt w))
      (λ up. let e = passed.whole b k low r in let past = passed.apart b a up lt in let from = q.from in inr (inr (ComesBefore.by_import (omega arith)))) (side b a le)) (cases_lt a b)

  -- where one before the first is met
  own_before : (k j r : ℕ) → n ≤ k → k < end p n → ((i s : ℕ) → k < i → i < end p n → FindsType p u i s → IsBefore rank c s) → first ≡ None → At j → ComesBefore p n j n k → FindsType p u j r → IsBefore rank c r
  own_before k j r le lt after none (At.own f) b g = ⊎_elim (λ le'. let e = scan.whole j f.from f.before in absurd (omega arith)) (λ w. after j r w.0 f.before g) (comes p n j n k b)
  own_before k j r le lt after none (At.imported {a = a} low q) b g = passed.none none a j r low q g

  import_before : (a k j r : ℕ) → a < length imports → IsIdentifierOf p (item imports a + 1) k → ((i s : ℕ) → k < i → IsIdentifierOf p (item imports a + 1) i → FindsType p u i s → IsBefore rank c s)
      → ((b i s : ℕ) → b < a → IsIdentifierOf p (item imports b + 1) i → FindsType p u i s → IsBefore rank c s) → At j → ComesBefore p n j n k → FindsType p u j r → IsBefore rank c r
  import_before a k j r lt i after before (At.own f) b g = let past = passed.past a lt in let e = passed.whole a k lt i in let z = tree.nested j in let up = i.before in let from = f.from in
      ⊎_elim (λ le'. absurd (omega arith)) (λ w. let x = w.0 in let y = w.1 in absurd (omega arith)) (comes p n j n k b)
  import_before a k j r lt i after before (At.imported {a = e} low q) b g = ⊎_elim
      (λ up. let past = passed.apart a e up low in let ends = passed.whole a k lt i in let z = tree.nested j in let x = i.before in let from = q.from in
      ⊎_elim (λ le'. absurd (omega arith)) (λ w. let y = w.1 in absurd (omega arith)) (comes p n j n k b))
      (λ le. ⊎_elim (λ z. let w = subst (λ x. IsIdentifierOf p (item imports x + 1) j) z q in let ends = passed.whole a j lt w in let x = i.before in
      ⊎_elim (λ le'. absurd (omega arith)) (λ y. after j r y.0 w g) (comes p n j n k b)) (λ up. before e j r up q g) (side e a le)) (cases_lt a e)

  pub looked_at : IsLookedAt p u rank c n (option_or first own_first)
  looked_at = record {
    inner = λ k i lt. let f = i.from in scan.same k f i.before (λ e. omega arith);
    imports = λ x i k f w q. let z = index_of imports i ((lists i).1 (subst (λ x. IsLookedForIn p u x i) (only x f) w)) in passed.same z.0 k z.1 (subst (λ x. IsIdentifierOf p (x + 1) k) (sym z.2) q);
    order = λ j k x y. order j k (at j x) (at k y);
    none = λ z k s w f. let both = or_none first own_first z in none_at both.0 both.1 k s (at k w) f;
    some = λ s z. ⊎_elim
        (λ w. let it = passed.some s w in (it.1, place it.1 (At.imported it.2 it.3), it.4, it.5, λ j r x b f. import_before it.0 it.1 j r it.2 it.3 it.6 it.7 (at j x) b f))
        (λ w. let it = scan.some s w.1 in (it.0, inl (record { from = it.1; before = it.2 }), it.3, it.4, λ j r x b f. own_before it.0 j r it.1 it.2 it.5 w.0 (at j x) b f)) (or_some first own_first s z);
  }
    where
      none_at : first ≡ None → own_first ≡ None → (k s : ℕ) → At k → FindsType p u k s → IsBefore rank c s
      none_at x y k s (At.own f) g = scan.none y k s f.from f.before g
      none_at x y k s (At.imported {a = a} lt q) g = passed.none x a k s lt q g
