-- The search for what is reached, and what is left of points and steps.
use Rattle.std.proofs.Common.{◌≡◌, ◌⊎◌, inl, inr, ⊎_elim, refl, sym, ◌∙◌, ap, subst, arith, ℕ, ◌+◌, ◌<◌, ◌≤◌, Bool, true, false, ◌||◌, if◌then◌else◌, List, [], ◌∷◌, ◌++◌, length, length-append, Option, Some, None, nat_lt, slice_get}
use Rattle.std.specs.List.{Contains}
use Rattle.std.proofs.lemmas.Bool.{false≢true, cases_lt}
use Rattle.std.proofs.lemmas.Bool.Decides.{Decides-ltb}
use Rattle.std.proofs.lemmas.Option.{none-some, same_Some, slice_get_past}
use Rattle.std.proofs.lemmas.List.Elements.{Contains-append_left, Contains-append_right, Contains-append_cases, Contains-push, Contains-push_cases}
use Rattle.jr_places.specs.declared.stamps.Stamps.{Stamps}
use Rattle.jr_places.specs.Stamps.{is_now, is_stamped, IsStamping, IsEmptied, AddsStamp}
use Rattle.jr_flow_defs.specs.declared.point.Point.{Point}
use Rattle.jr_flow_defs.specs.Graphs.{StepList}
use Rattle.jr_flow_defs.proofs.Searched.{contains_out, contains_first, contains_more}
use Rattle.jr_flow.proofs.Gets.{front_get, get_pushed, get_last}
use Rattle.jr_kept.specs.Searched.{HasStepTo, IsMetOrOpen}
use Rattle.jr_kept.specs.Pruned.{IsArrived, AreArrived, IsArriving, is_left, AreNumbered, number_in, number_from, between, left_step, left_steps}
use Rattle.jr_kept.proofs.Naming.{get_inside}

none_in : {A : Type 0} (x : A) → Contains [] x → ⊥
none_in x h = absurd (omega (arith, h.1))

-- ---- what is reached

pub stamped_inside : (met : Stamps) (count k : ℕ) → IsStamping met count → is_stamped met k ≡ true → k < count
stamped_inside met count k counted e = ⊎_elim (λ lt. lt) (λ past. let size = counted.size in absurd (false≢true (sym (ap (is_now met.round) (slice_get_past met.stamps.items k (omega (arith, size, past)))) ∙ e))) (cases_lt k count)

pub arriving_begun : (count : ℕ) (steps : StepList) (met : Stamps) → IsEmptied met count → IsArriving count steps met (0 ∷ [])
arriving_begun count steps met empty = record {
  counted = empty.counted;
  come = λ k e. absurd (false≢true (sym (empty.none k) ∙ e));
  leads = λ k c lt. ⊎_elim (λ same. subst (IsArrived count steps) same (IsArrived.first (subst (λ z. z < count) (sym same) lt))) (λ more. absurd (none_in k more)) (contains_out 0 [] k c);
  begun = λ lt. inr (contains_first 0 []);
  passed = λ i j t e c lt. absurd (false≢true (sym (empty.none i) ∙ e));
}

module _ (count : ℕ) (steps : StepList) (met added : Stamps) (rest : List ℕ) (at : ℕ) (h : IsArriving count steps met (rest ++ at ∷ [])) where
  still : (k : ℕ) → ((n : ℕ) → is_stamped met n ≡ true → is_stamped added n ≡ true) → (at ≡ k → is_stamped added k ≡ true) → IsMetOrOpen met (rest ++ at ∷ []) k → IsMetOrOpen added rest k
  still k kept now (inl stamped) = inl (kept k stamped)
  still k kept now (inr among) = ⊎_elim (λ early. inr early) (λ last. inl (now last)) (Contains-push_cases rest at k among)

  -- it was met before, or is none of the points
  pub arriving_known : AddsStamp met added count at false → IsArriving count steps added rest
  arriving_known adds = record {
    counted = adds.counted;
    come = λ k e. ⊎_elim (λ early. h.come k early) (λ same. h.leads k (subst (Contains (rest ++ at ∷ [])) same (Contains-push rest at)) (stamped_inside added count k adds.counted e)) (adds.out k e);
    leads = λ k c lt. h.leads k (Contains-append_left rest (at ∷ []) k c) lt;
    begun = λ lt. still 0 adds.kept (λ same. now 0 same lt) (h.begun lt);
    passed = λ i j t e c lt. still j adds.kept (λ same. now j same lt) (h.passed i j t (was i e) c lt);
  }
    where
      now : (k : ℕ) → at ≡ k → k < count → is_stamped added k ≡ true
      now k same lt = adds.kept k (subst (λ n. is_stamped met n ≡ true) same (adds.was (subst (λ n. n < count) (sym same) lt) refl))

      was : (k : ℕ) → is_stamped added k ≡ true → is_stamped met k ≡ true
      was k e = ⊎_elim (λ early. early) (λ same. subst (λ n. is_stamped met n ≡ true) same (adds.was (subst (λ n. n < count) (sym same) (stamped_inside added count k adds.counted e)) refl)) (adds.out k e)

  -- it is met now
  pub arriving_more : (ways : List ℕ) → AddsStamp met added count at true → (at < count → (k : ℕ) → HasStepTo steps at k → Contains ways k) → (at < count → (k : ℕ) → Contains ways k → HasStepTo steps at k) → IsArriving count steps added (rest ++ ways)
  arriving_more ways adds has of = record {
    counted = adds.counted;
    come = λ k e. ⊎_elim (λ early. h.come k early) (λ same. subst (IsArrived count steps) same arrived) (adds.out k e);
    leads = λ k c lt. ⊎_elim (λ early. h.leads k (Contains-append_left rest (at ∷ []) k early) lt) (λ new. let s = of inside k new in IsArrived.on s.0 arrived s.1 lt) (Contains-append_cases rest ways k c);
    begun = λ lt. wider 0 (still 0 adds.kept (λ same. subst (λ n. is_stamped added n ≡ true) same now) (h.begun lt));
    passed = λ i j t e c lt. ⊎_elim
        (λ early. wider j (still j adds.kept (λ same. subst (λ n. is_stamped added n ≡ true) same now) (h.passed i j t early c lt)))
        (λ same. inr (Contains-append_right rest ways j (has inside j (t, subst (λ n. Contains steps (n, j, t)) (sym same) c))))
        (adds.out i e);
  }
    where
      now : is_stamped added at ≡ true
      now = (adds.new_one refl).1

      inside : at < count
      inside = stamped_inside added count at adds.counted now

      arrived : IsArrived count steps at
      arrived = h.leads at (Contains-push rest at) inside

      wider : (k : ℕ) → IsMetOrOpen added rest k → IsMetOrOpen added (rest ++ ways) k
      wider k (inl stamped) = inl stamped
      wider k (inr among) = inr (Contains-append_left rest ways k among)

-- nothing waits
pub arriving_ends : (count : ℕ) (steps : StepList) (met : Stamps) → IsArriving count steps met [] → AreArrived met count steps
arriving_ends count steps met h k = (h.come k, all k)
  where
    is_met : (n : ℕ) → IsMetOrOpen met [] n → is_stamped met n ≡ true
    is_met n (inl stamped) = stamped
    is_met n (inr among) = absurd (none_in n among)

    all : (n : ℕ) → IsArrived count steps n → is_stamped met n ≡ true
    all n (IsArrived.first lt) = is_met 0 (h.begun lt)
    all n (IsArrived.on {i = i} t way c lt) = is_met n (h.passed i n t (all i way) c lt)

-- ---- what is left of the points

or_right : (b c : Bool) → c ≡ true → (b || c) ≡ true
or_right true c e = refl
or_right false c e = e

pub stamped_left : (met : Stamps) (k : ℕ) → is_stamped met k ≡ true → is_left met k ≡ true
stamped_left met k e = or_right (nat_lt k 3) (is_stamped met k) e

pub first_left : (met : Stamps) (k : ℕ) → k < 3 → is_left met k ≡ true
first_left met k lt = ap (λ b. b || is_stamped met k) ((Decides-ltb k 3).1 lt)

pub left_stamped : (met : Stamps) (k : ℕ) → 3 ≤ k → is_left met k ≡ true → is_stamped met k ≡ true
left_stamped met k le e = by (nat_lt k 3) (Decides-ltb k 3).0 e
  where
    by : (b : Bool) → (b ≡ true → k < 3) → (b || is_stamped met k) ≡ true → is_stamped met k ≡ true
    by true tells same = let lt = tells refl in absurd (omega (arith, lt, le))
    by false tells same = same

pub numbered_none : (points : List Point) (met : Stamps) → AreNumbered points met 0 [] []
numbered_none points met = record {
  size = refl;
  begun = λ le. refl;
  own = λ k lt less. absurd (omega (arith, lt));
  has = λ k x lt e left. absurd (omega (arith, lt));
  back = λ j lt. absurd (omega (arith, lt));
  few = λ k j e. absurd (none-some (Some j) e);
  apart = λ k l j e f. absurd (none-some (Some j) e);
}

module _ (points : List Point) (met : Stamps) (n : ℕ) (left : List Point) (numbers : List (Option ℕ)) (h : AreNumbered points met n left numbers) where
  kept_number : (o : Option ℕ) (k : ℕ) (q : Option ℕ) → slice_get numbers k ≡ Some q → slice_get (numbers ++ o ∷ []) k ≡ Some q
  kept_number o k q e = front_get numbers (o ∷ []) k (get_inside numbers k q e) ∙ e

  -- a number among those with one more: one of before, or the last
  old_or_last : (o : Option ℕ) (k j : ℕ) → slice_get (numbers ++ o ∷ []) k ≡ Some (Some j) → (slice_get numbers k ≡ Some (Some j)) ⊎ ((k ≡ n) × (o ≡ Some j))
  old_or_last o k j e = let size = h.size in ⊎_elim (λ early. inl early) (λ last. let at = last.0 in inr (omega (arith, at, size), last.1)) (get_pushed numbers o (Some j) k e)

  last_number : (o : Option ℕ) → slice_get (numbers ++ o ∷ []) n ≡ Some o
  last_number o = subst (λ k. slice_get (numbers ++ o ∷ []) k ≡ Some o) h.size (get_last numbers o)

  size_more : (o : Option ℕ) → length (numbers ++ o ∷ []) ≡ n + 1
  size_more o = let size = h.size in let l = length-append numbers (o ∷ []) in omega (arith, size, l)

  pub numbered_more : (x : Point) → slice_get points n ≡ Some x → is_left met n ≡ true → AreNumbered points met (n + 1) (left ++ x ∷ []) (numbers ++ Some (length left) ∷ [])
  numbered_more x at kept = record {
    size = size_more (Some (length left));
    begun = λ le. let early = h.begun (omega (arith, le)) in omega (arith, early, more);
    own = λ k lt less. ⊎_elim (λ early. kept_number (Some (length left)) k (Some k) (h.own k early less))
        (λ past. let same : k ≡ n = omega (arith, lt, past) in let early = h.begun (omega (arith, less, same)) in let is : length left ≡ k = omega (arith, early, same) in
        subst (λ z. slice_get (numbers ++ Some (length left) ∷ []) z ≡ Some (Some k)) (sym same) (last_number (Some (length left)) ∙ ap (λ z. Some (Some z)) is)) (cases_lt k n);
    has = λ k y lt e is. ⊎_elim
        (λ early. let one = h.has k y early e is in (one.0, kept_number (Some (length left)) k (Some one.0) one.1, front_get left (x ∷ []) one.0 (get_inside left one.0 y one.2) ∙ one.2))
        (λ past. let same : n ≡ k = omega (arith, lt, past) in let is_x : x ≡ y = same_Some x y (sym at ∙ ap (slice_get points) same ∙ e) in
        (length left, subst (λ z. slice_get (numbers ++ Some (length left) ∷ []) z ≡ Some (Some (length left))) same (last_number (Some (length left))), get_last left x ∙ ap Some is_x)) (cases_lt k n);
    back = λ j lt. ⊎_elim
        (λ early. let one = h.back j early in let less = one.1 in (one.0, omega (arith, less), one.2, kept_number (Some (length left)) one.0 (Some j) one.3))
        (λ past. let same : length left ≡ j = omega (arith, lt, past, more) in (n, omega arith, kept, last_number (Some (length left)) ∙ ap (λ z. Some (Some z)) same)) (cases_lt j (length left));
    few = λ k j e. ⊎_elim (λ early. let lt = h.few k j early in omega (arith, lt, more)) (λ last. let same = same_Some (length left) j last.1 in omega (arith, same, more)) (old_or_last (Some (length left)) k j e);
    apart = λ k l j e f. ⊎_elim
        (λ early. ⊎_elim (λ other. h.apart k l j early other) (λ last. let same = same_Some (length left) j last.1 in let lt = h.few k j early in absurd (omega (arith, lt, same))) (old_or_last (Some (length left)) l j f))
        (λ first. ⊎_elim (λ other. let same = same_Some (length left) j first.1 in let lt = h.few l j other in absurd (omega (arith, lt, same))) (λ last. let a = first.0 in let b = last.0 in omega (arith, a, b)) (old_or_last (Some (length left)) l j f))
        (old_or_last (Some (length left)) k j e);
  }
    where
      more : length (left ++ x ∷ []) ≡ length left + 1
      more = length-append left (x ∷ [])

  pub numbered_passed : is_left met n ≡ false → AreNumbered points met (n + 1) left (numbers ++ None ∷ [])
  numbered_passed out = record {
    size = size_more None;
    begun = λ le. absurd (false≢true (sym out ∙ first_left met n (omega (arith, le))));
    own = λ k lt less. ⊎_elim (λ early. kept_number None k (Some k) (h.own k early less)) (λ past. let same : k ≡ n = omega (arith, lt, past) in absurd (false≢true (sym out ∙ first_left met n (omega (arith, same, less))))) (cases_lt k n);
    has = λ k y lt e is. ⊎_elim
        (λ early. let one = h.has k y early e is in (one.0, kept_number None k (Some one.0) one.1, one.2))
        (λ past. let same : k ≡ n = omega (arith, lt, past) in absurd (false≢true (sym out ∙ subst (λ z. is_left met z ≡ true) same is))) (cases_lt k n);
    back = λ j lt. let one = h.back j lt in let less = one.1 in (one.0, omega (arith, less), one.2, kept_number None one.0 (Some j) one.3);
    few = λ k j e. ⊎_elim (λ early. h.few k j early) (λ last. absurd (none-some j last.1)) (old_or_last None k j e);
    apart = λ k l j e f. ⊎_elim
        (λ early. ⊎_elim (λ other. h.apart k l j early other) (λ last. absurd (none-some j last.1)) (old_or_last None l j f))
        (λ first. absurd (none-some j first.1))
        (old_or_last None k j e);
  }

-- ---- what is left of the steps

between_out : (o q : Option ℕ) (s : Bool) (i j : ℕ) (t : Bool) → Contains (between o q s) (i, j, t) → (o ≡ Some i) × (q ≡ Some j) × (s ≡ t)
between_out None q s i j t c = absurd (none_in (i, j, t) c)
between_out (Some a) None s i j t c = absurd (none_in (i, j, t) c)
between_out (Some a) (Some b) s i j t c = ⊎_elim (λ same. (ap (λ x. Some (x.0)) same, ap (λ x. Some (x.1)) same, ap (λ x. x.2) same)) (λ more. absurd (none_in (i, j, t) more)) (contains_out (a, b, s) [] (i, j, t) c)

-- a step of before that is left
pub record HasOldStep (met : Stamps) (numbers : List (Option ℕ)) (steps : StepList) (i j : ℕ) (t : Bool) : Type 0 where
  pub from : ℕ
  pub to : ℕ
  pub reached : is_stamped met from ≡ true
  pub step : Contains steps (from, to, t)
  pub starts : number_in numbers from ≡ Some i
  pub ends : number_in numbers to ≡ Some j

from_number : (met : Stamps) (numbers : List (Option ℕ)) (k i : ℕ) → number_from met numbers k ≡ Some i → (is_stamped met k ≡ true) × (number_in numbers k ≡ Some i)
from_number met numbers k i e = by (is_stamped met k) refl e
  where
    by : (b : Bool) → is_stamped met k ≡ b → (if b then number_in numbers k else None) ≡ Some i → (is_stamped met k ≡ true) × (number_in numbers k ≡ Some i)
    by true is same = (is, same)
    by false is same = absurd (none-some i same)

pub left_out : (met : Stamps) (numbers : List (Option ℕ)) (steps : StepList) (i j : ℕ) (t : Bool) → Contains (left_steps met numbers steps) (i, j, t) → HasOldStep met numbers steps i j t
left_out met numbers [] i j t c = absurd (none_in (i, j, t) c)
left_out met numbers (s ∷ steps) i j t c = ⊎_elim
    (λ one. let b = between_out (number_from met numbers s.0) (number_in numbers s.1) s.2 i j t one in let from = from_number met numbers s.0 i b.0 in record {
      from = s.0;
      to = s.1;
      reached = from.0;
      step = subst (λ z. Contains (s ∷ steps) (s.0, s.1, z)) b.2 (contains_first s steps);
      starts = from.1;
      ends = b.1;
    })
    (λ more. let o = left_out met numbers steps i j t more in record { from = o.from; to = o.to; reached = o.reached; step = contains_more s steps (o.from, o.to, t) o.step; starts = o.starts; ends = o.ends })
    (Contains-append_cases (left_step met numbers s) (left_steps met numbers steps) (i, j, t) c)

pub left_into : (met : Stamps) (numbers : List (Option ℕ)) (steps : StepList) (a b i j : ℕ) (t : Bool) → is_stamped met a ≡ true → number_in numbers a ≡ Some i → number_in numbers b ≡ Some j → Contains steps (a, b, t) → Contains (left_steps met numbers steps) (i, j, t)
left_into met numbers [] a b i j t reached starts ends c = absurd (none_in (a, b, t) c)
left_into met numbers (s ∷ steps) a b i j t reached starts ends c = ⊎_elim
    (λ same. Contains-append_left (left_step met numbers s) (left_steps met numbers steps) (i, j, t) (subst (λ xs. Contains xs (i, j, t)) (sym (is same)) (contains_first (i, j, t) [])))
    (λ more. Contains-append_right (left_step met numbers s) (left_steps met numbers steps) (i, j, t) (left_into met numbers steps a b i j t reached starts ends more))
    (contains_out s steps (a, b, t) c)
  where
    from_is : number_from met numbers a ≡ Some i
    from_is = ap (λ z. if z then number_in numbers a else None) reached ∙ starts

    is : s ≡ (a, b, t) → left_step met numbers s ≡ (i, j, t) ∷ []
    is same = ap (left_step met numbers) same ∙ ap (λ o. between o (number_in numbers b) t) from_is ∙ ap (λ o. between (Some i) o t) ends
