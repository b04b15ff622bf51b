-- Lists of what is pending, by their numbers.
use Rattle.std.proofs.Common.{◌≡◌, ◌⊎◌, inl, inr, ⊎_elim, refl, sym, ◌∙◌, ap, ap₂, subst, arith, ℕ, zero, suc, ◌+◌, ◌<◌, ◌≤◌, Bool, true, false, ◌&&◌, cond, List, [], ◌∷◌, ◌++◌, length, length-append, append-nil, Option, Some, None, nat_eq, slice_get}
use Rattle.std.proofs.lemmas.Bool.{false≢true}
use Rattle.std.proofs.lemmas.Bool.Decides.{Decides-eqb}
use Rattle.std.proofs.lemmas.Option.{none-some, same_Some, slice_get_within}
use Rattle.std.specs.HashMap.{IsEmpty}
use Rattle.std.specs.Map.{lookup}
use Rattle.jr_plain.specs.Same.{same_pair}
use Rattle.jr_plain.proofs.Same.{pair_tells}
use Rattle.jr_flow_defs.specs.Acts as defs
use Rattle.jr_flow.specs.declared.acts.Completion.{Completion}
use Rattle.jr_flow.specs.declared.pending.Pending.{Pending}
use Rattle.jr_flow.specs.declared.pending.Waiting.{Waiting}
use Rattle.jr_flow.specs.Seen.{completion_seen}
use Rattle.jr_flow.specs.Keys.{completion_key, waiting_key, same_waiting}
use Rattle.jr_flow.specs.Places.{entry, waiting_then, listed, list_seen, IsRising}
use Rattle.jr_flow.specs.Pended.{lists_of, number_in, IsPending, Grows, HasList}
use Rattle.jr_flow.proofs.Keyed.{waiting_tells, completion_once}
use Rattle.jr_flow.proofs.Gets.{front_get, got, get_pushed, get_last}

entry_kept : (all more : List Waiting) (n : ℕ) → n ≤ length all → entry (all ++ more) n ≡ entry all n
entry_kept all more zero le = refl
entry_kept all more (suc n) le = front_get all more n (omega arith)

-- how many completions are asked for does not matter, from the number on
pub same_list : (all : List Waiting) → IsRising all → (room other n : ℕ) → n ≤ room → n ≤ other → listed all room n ≡ listed all other n
same_list all rising zero zero zero le to = refl
same_list all rising zero (suc other) zero le to = refl
same_list all rising (suc room) zero zero le to = refl
same_list all rising (suc room) (suc other) n le to = by (λ k less few. same_list all rising room other k less few) (entry all n) refl
  where
    by : ((k : ℕ) → k ≤ room → k ≤ other → listed all room k ≡ listed all other k) → (o : Option Waiting) → entry all n ≡ o → waiting_then (listed all room) o ≡ waiting_then (listed all other) o
    by rest None e = refl
    by rest (Some x) e = let lt = rising.outer n x e in ap (λ w. completion_seen x.completion ∷ w) (rest x.outer (omega (arith, lt, le)) (omega (arith, lt, to)))
same_list all rising _ _ _ le to = absurd (omega arith)

-- a list keeps its number where more lists are added
pub list_kept : (all more : List Waiting) → IsRising all → (room n : ℕ) → n ≤ length all → listed (all ++ more) room n ≡ listed all room n
list_kept all more rising zero n le = refl
list_kept all more rising (suc room) n le = ap (waiting_then (listed (all ++ more) room)) (entry_kept all more n le) ∙ by (λ k few. list_kept all more rising room k few) (entry all n) refl
  where
    by : ((k : ℕ) → k ≤ length all → listed (all ++ more) room k ≡ listed all room k) → (o : Option Waiting) → entry all n ≡ o → waiting_then (listed (all ++ more) room) o ≡ waiting_then (listed all room) o
    by rest None e = refl
    by rest (Some x) e = let lt = rising.outer n x e in ap (λ w. completion_seen x.completion ∷ w) (rest x.outer (omega (arith, lt, le)))

-- ---- one list more

entry_inside : (all : List Waiting) (n : ℕ) (x : Waiting) → entry all n ≡ Some x → n ≤ length all
entry_inside all zero x e = omega arith
entry_inside all (suc n) x e = let lt = slice_get_within all n x e in omega (arith, lt)

entry_pushed : (all : List Waiting) (y x : Waiting) (n : ℕ) → entry (all ++ y ∷ []) n ≡ Some x → (entry all n ≡ Some x) ⊎ ((n ≡ length all + 1) × (y ≡ x))
entry_pushed all y x zero e = absurd (none-some x e)
entry_pushed all y x (suc n) e = ⊎_elim (λ h. inl h) (λ h. let l = h.0 in inr (omega (arith, l), h.1)) (get_pushed all y x n e)

entry_more : (all more : List Waiting) (n : ℕ) (x : Waiting) → entry all n ≡ Some x → entry (all ++ more) n ≡ Some x
entry_more all more n x e = entry_kept all more n (entry_inside all n x e) ∙ e

entry_last : (all : List Waiting) (y : Waiting) (n : ℕ) → n ≡ length all + 1 → entry (all ++ y ∷ []) n ≡ Some y
entry_last all y n e = ap (entry (all ++ y ∷ [])) (e ∙ is_suc (length all)) ∙ get_last all y
  where
    is_suc : (k : ℕ) → k + 1 ≡ suc k
    is_suc k = omega arith

abbrev outer_of : Waiting → ℕ
outer_of x = x.outer

pub none_pending : (pending : Pending) → IsEmpty pending.numbers → lists_of pending ≡ [] → IsPending pending
none_pending pending empty none = record {
  rising = record { outer = λ n x e. absurd (no_entry n x (subst (λ all. entry all n ≡ Some x) none e)) };
  stands = λ x n e. absurd (none-some n (sym (ap (lookup (λ q. same_waiting (waiting_key x) q)) empty) ∙ e));
  known = λ x n e. absurd (no_entry n x (subst (λ all. entry all n ≡ Some x) none e));
}
  where
    no_entry : (n : ℕ) (x : Waiting) → entry [] n ≡ Some x → ⊥
    no_entry zero x e = none-some x e
    no_entry (suc n) x e = none-some x e

pub list_known : (pending : Pending) (outer n : ℕ) (completion : Completion) → number_in pending (record { completion = completion; outer = outer }) ≡ Some n → IsPending pending → HasList pending pending outer completion n
list_known pending outer n completion e h = record {
  grows = record { more = []; grown = sym (append-nil (lists_of pending)); right = h };
  stands = h.stands (record { completion = completion; outer = outer }) n e;
}

module _ (old new : Pending) (outer n : ℕ) (completion : Completion) (h : IsPending old) (fresh : number_in old (record { completion = completion; outer = outer }) ≡ None) (fits : outer ≤ length (lists_of old))
    (lists : lists_of new ≡ lists_of old ++ record { completion = completion; outer = outer } ∷ []) (follows : n ≡ length (lists_of new))
    (updates : (x : Waiting) → number_in new x ≡ cond (same_waiting (waiting_key (record { completion = completion; outer = outer })) (waiting_key x)) (Some n) (number_in old x)) where
  abbrev one : Waiting
  one = record { completion = completion; outer = outer }

  n_is : n ≡ length (lists_of old) + 1
  n_is = follows ∙ ap length lists ∙ length-append (lists_of old) (one ∷ [])

  in_new : (x : Waiting) (k : ℕ) → entry (lists_of new) k ≡ Some x → (entry (lists_of old) k ≡ Some x) ⊎ ((k ≡ n) × (one ≡ x))
  in_new x k e = ⊎_elim (λ a. inl a) (λ a. inr (a.0 ∙ sym n_is, a.1)) (entry_pushed (lists_of old) one x k (sym (ap (λ all. entry all k) lists) ∙ e))

  kept : (x : Waiting) (k : ℕ) → entry (lists_of old) k ≡ Some x → entry (lists_of new) k ≡ Some x
  kept x k e = ap (λ all. entry all k) lists ∙ entry_more (lists_of old) (one ∷ []) k x e

  at_n : entry (lists_of new) n ≡ Some one
  at_n = ap (λ all. entry all n) lists ∙ entry_last (lists_of old) one n n_is

  stands_new : (x : Waiting) (k : ℕ) → number_in new x ≡ Some k → entry (lists_of new) k ≡ Some x
  stands_new x k e = by (same_waiting (waiting_key one) (waiting_key x)) refl (sym (updates x) ∙ e)
    where
      by : (b : Bool) → same_waiting (waiting_key one) (waiting_key x) ≡ b → cond b (Some n) (number_in old x) ≡ Some k → entry (lists_of new) k ≡ Some x
      by true same is = subst (λ j. entry (lists_of new) j ≡ Some x) (same_Some n k is) (at_n ∙ ap Some ((waiting_tells one x).0 same))
      by false same is = kept x k (h.stands x k is)

  known_new : (x : Waiting) (k : ℕ) → entry (lists_of new) k ≡ Some x → number_in new x ≡ Some k
  known_new x k e = updates x ∙ by (same_waiting (waiting_key one) (waiting_key x)) refl (in_new x k e)
    where
      by : (b : Bool) → same_waiting (waiting_key one) (waiting_key x) ≡ b → (entry (lists_of old) k ≡ Some x) ⊎ ((k ≡ n) × (one ≡ x)) → cond b (Some n) (number_in old x) ≡ Some k
      by true same (inl old_one) = absurd (none-some k (sym fresh ∙ ap (number_in old) ((waiting_tells one x).0 same) ∙ h.known x k old_one))
      by true same (inr is) = ap Some (sym is.0)
      by false same (inl old_one) = h.known x k old_one
      by false same (inr is) = absurd (false≢true (sym same ∙ (waiting_tells one x).1 is.1))

  pub list_added : HasList old new outer completion n
  list_added = record {
    grows = record {
      more = one ∷ [];
      grown = lists;
      right = record {
        rising = record { outer = λ k x e. ⊎_elim (λ a. h.rising.outer k x a) (λ a. let o : outer ≡ x.outer = ap outer_of a.1 in let is = a.0 in omega (arith, n_is, fits, o, is)) (in_new x k e) };
        stands = stands_new;
        known = known_new;
      };
    };
    stands = at_n;
  }

-- ---- what is pending by the number of a list

pub list_of_none : (all : List Waiting) (n : ℕ) → entry all n ≡ None → list_seen all n ≡ []
list_of_none all zero e = refl
list_of_none all (suc n) e = ap (waiting_then (listed all n)) e

pub list_of_one : (all : List Waiting) (n : ℕ) (x : Waiting) → IsRising all → entry all n ≡ Some x → list_seen all n ≡ completion_seen x.completion ∷ list_seen all x.outer
list_of_one all zero x rising e = absurd (none-some x e)
list_of_one all (suc n) x rising e = let lt = rising.outer (suc n) x e in
    ap (waiting_then (listed all n)) e ∙ ap (λ w. completion_seen x.completion ∷ w) (same_list all rising n x.outer x.outer (omega (arith, lt)) (omega arith))

-- a list has one number alone
module _ (pending : Pending) (h : IsPending pending) where
  abbrev all : List Waiting
  all = lists_of pending

  there : (n : ℕ) → n ≤ length all → (n ≡ 0) ⊎ ((x : Waiting) × (entry all n ≡ Some x))
  there zero le = inl refl
  there (suc n) le = inr (got all n (omega (arith, le)))

  cons_parts : (c d : defs.Completion) (v w : List defs.Completion) → c ∷ v ≡ d ∷ w → (c ≡ d) × (v ≡ w)
  cons_parts c d v w e = (cc, cc)

  nil_cons : (c : defs.Completion) (w : List defs.Completion) → [] ≡ c ∷ w → ⊥
  nil_cons c w e = cc

  one_number : (i j : ℕ) (x : Waiting) → entry all i ≡ Some x → entry all j ≡ Some x → i ≡ j
  one_number i j x e f = same_Some i j (sym (h.known x i e) ∙ h.known x j f)

  waiting_is : (x y : Waiting) → x.completion ≡ y.completion → x.outer ≡ y.outer → x ≡ y
  waiting_is x y c o = (waiting_tells x y).0 (ap₂ (λ s t. s && t) (ap (λ d. same_pair (completion_key x.completion) (completion_key d)) (sym c) ∙ (pair_tells (completion_key x.completion) (completion_key x.completion)).1 refl)
      (ap (nat_eq x.outer) (sym o) ∙ (Decides-eqb x.outer x.outer).1 refl))

  -- of two numbers of which neither is 0
  both_some : (i j : ℕ) (x y : Waiting) → entry all i ≡ Some x → entry all j ≡ Some y → list_seen all i ≡ list_seen all j → (list_seen all x.outer ≡ list_seen all y.outer → x.outer ≡ y.outer) → i ≡ j
  both_some i j x y a b e outer = let parts = cons_parts (completion_seen x.completion) (completion_seen y.completion) (list_seen all x.outer) (list_seen all y.outer)
      (sym (list_of_one all i x h.rising a) ∙ e ∙ list_of_one all j y h.rising b) in
      one_number i j x a (b ∙ ap Some (sym (waiting_is x y (completion_once x.completion y.completion parts.0) (outer parts.1))))

  none_some : (i j : ℕ) (y : Waiting) → i ≡ 0 → entry all j ≡ Some y → list_seen all i ≡ list_seen all j → ⊥
  none_some i j y z b e = nil_cons (completion_seen y.completion) (list_seen all y.outer) (ap (list_seen all) (sym z) ∙ e ∙ list_of_one all j y h.rising b)

  once : (room i j : ℕ) → i ≤ room → i ≤ length all → j ≤ length all → list_seen all i ≡ list_seen all j → i ≡ j
  once zero i j le first second e = ⊎_elim (λ z. omega (arith, le, z)) (λ b. absurd (none_some i j b.0 (omega (arith, le)) b.1 e)) (there j second)
  once (suc room) i j le first second e = ⊎_elim
      (λ z. ⊎_elim (λ o. omega (arith, z, o)) (λ b. absurd (none_some i j b.0 z b.1 e)) (there j second))
      (λ a. ⊎_elim (λ o. absurd (none_some j i a.0 o a.1 (sym e)))
      (λ b. let x = h.rising.outer i a.0 a.1 in let y = h.rising.outer j b.0 b.1 in
      both_some i j a.0 b.0 a.1 b.1 e (λ same. once room a.0.outer b.0.outer (omega (arith, le, x)) (omega (arith, first, x)) (omega (arith, second, y)) same))
      (there j second))
      (there i first)

pub list_once : (pending : Pending) → IsPending pending → (i j : ℕ) → i ≤ length (lists_of pending) → j ≤ length (lists_of pending) → list_seen (lists_of pending) i ≡ list_seen (lists_of pending) j → i ≡ j
list_once pending h i j le to e = once pending h i i j (omega arith) le to e
