-- The first of the faults that are shown.
use Rattle.std.proofs.Common.{◌≡◌, inl, inr, ℕ, ◌+◌, ◌<◌, ◌≤◌, List, [], ◌∷◌, length, get_or, Option, Some, None, IfSome, Contains, sym, ◌∙◌, ap, subst, refl, arith}
use Rattle.std.proofs.lemmas.Bool.{cases_lt}
use Rattle.std.proofs.lemmas.List.{get_or_default}
use Rattle.jr_base.specs.declared.token.Place.{Place}
use Rattle.jr_rule.specs.declared.Fault.{Fault}
use Rattle.jr_rule.specs.declared.Rule.{Rule}
use Rattle.jr_rule.specs.Numbers.{number_of}
use Rattle.jr_marks.specs.Places.{IsOrdered, place_of_fault}
use Rattle.jr_marks.specs.declared.marks.Marks.{Marks}
use Rattle.jr_front.specs.Unbound.{IsBefore}
use Rattle.jr_front.specs.Broken.{IsBetter, IsBetterOf, IsFirstBroken}
use Rattle.jr_front.proofs.Losing.{before_trans, never_before_itself}

better_trans : (a b c : Rule × Place) → IsBetter a b → IsBetter b c → IsBetter a c
better_trans a b c h k = elim h [
  | inl x ↦ elim k [ inl y ↦ inl (before_trans a.1 b.1 c.1 x y) | inr y ↦ inl (subst (λ p. IsBefore a.1 p) y.0 x) ]
  | inr x ↦ elim k [ inl y ↦ inl (subst (λ p. IsBefore p c.1) (sym x.0) y) | inr y ↦ inr (x.0 ∙ y.0, lower (number_of a.0) (number_of b.0) (number_of c.0) x.1 y.1) ]
]
  where
    lower : (i j k : ℕ) → i < j → j < k → i < k
    lower i j k h e = omega arith

never_better_itself : (a : Rule × Place) → IsBetter a a → ⊥
never_better_itself a h = elim h [ inl x ↦ never_before_itself a.1 x | inr x ↦ never (number_of a.0) x.1 ]
  where
    never : (i : ℕ) → i < i → ⊥
    never i h = omega arith

-- a fault as it is shown
abbrev pub shown : Marks → Fault → Rule × Place
shown m fault = (fault.rule, place_of_fault m fault)

-- of the first faults, so many of them, one as it is shown, and none of them is better
pub record IsFirstUpTo (m : Marks) (faults : List Fault) (end : ℕ) (best : Rule × Place) : Type 0 where
  pub fault : Fault
  pub member : Contains faults fault
  pub told : best ≡ shown m fault
  pub first : (k : ℕ) (d : Fault) → k < end → IsBetter (shown m (get_or faults k d)) best → ⊥

-- what was found of the first faults
pub record AreJudged (m : Marks) (faults : List Fault) (end : ℕ) (best : Option (Rule × Place)) : Type 0 where
  pub none : best ≡ None → end ≡ 0
  pub some : IfSome best (λ one. 0 < end)
  pub first : IsOrdered m → IfSome best (IsFirstUpTo m faults end)

pub none_judged : (m : Marks) (faults : List Fault) → AreJudged m faults 0 None
none_judged m faults = record { none = λ e. refl; some = tt; first = λ ordered. tt }

pub judged_more : (m : Marks) (faults : List Fault) (end : ℕ) (best : Option (Rule × Place)) (fault : Fault) (place : Place) (next : Rule × Place) → end < length faults → fault ≡ get_or faults end fault → (IsOrdered m → place ≡ place_of_fault m fault)
    → IsBetterOf best (fault.rule, place) next → AreJudged m faults end best → AreJudged m faults (end + 1) (Some next)
judged_more m faults end best fault place next lt is at e judged = record { none = λ never. cc; some = omega arith; first = λ ordered. is_first best e judged.none (judged.first ordered) (ap (λ p. (fault.rule, p)) (at ordered)) }
  where
    here : (k : ℕ) (d : Fault) → k < end + 1 → end ≤ k → get_or faults k d ≡ fault
    here k d less more = let same : k ≡ end = omega arith in ap (λ n. get_or faults n d) same ∙ (get_or_default faults end d fault lt ∙ sym is)

    is_first : (best : Option (Rule × Place)) → IsBetterOf best (fault.rule, place) next → (best ≡ None → end ≡ 0) → IfSome best (IsFirstUpTo m faults end) → (fault.rule, place) ≡ shown m fault → IsFirstUpTo m faults (end + 1) next
    is_first None e none first told = record {
      fault = fault;
      member = (end, lt, sym is);
      told = e ∙ told;
      first = λ k d less better. elim (cases_lt k end) [
        | inl below ↦ let zero : end ≡ 0 = none refl in absurd (omega arith)
        | inr more ↦ never_better_itself next (subst (λ o. IsBetter o next) (ap (shown m) (here k d less more) ∙ sym (e ∙ told)) better)
      ];
    }
    is_first (Some best) (inl e) none first told = record {
      fault = fault;
      member = (end, lt, sym is);
      told = e.1 ∙ told;
      first = λ k d less better. elim (cases_lt k end) [
        | inl below ↦ first.first k d below (better_trans (shown m (get_or faults k d)) next best better (subst (λ o. IsBetter o best) (sym e.1) e.0))
        | inr more ↦ never_better_itself next (subst (λ o. IsBetter o next) (ap (shown m) (here k d less more) ∙ sym (e.1 ∙ told)) better)
      ];
    }
    is_first (Some best) (inr e) none first told = record {
      fault = first.fault;
      member = first.member;
      told = e.1 ∙ first.told;
      first = λ k d less better. elim (cases_lt k end) [
        | inl below ↦ first.first k d below (subst (λ o. IsBetter (shown m (get_or faults k d)) o) e.1 better)
        | inr more ↦ e.0 (subst (λ o. IsBetter o best) (ap (shown m) (here k d less more) ∙ sym told) (subst (λ o. IsBetter (shown m (get_or faults k d)) o) e.1 better))
      ];
    }

-- the fault is the one at the end of the first faults
pub judged_at : (m : Marks) (faults : List Fault) (end : ℕ) (d : Fault) (best : Option (Rule × Place)) (place : Place) (next : Rule × Place) → end < length faults → (IsOrdered m → place ≡ place_of_fault m (get_or faults end d))
    → IsBetterOf best ((get_or faults end d).rule, place) next → AreJudged m faults end best → AreJudged m faults (end + 1) (Some next)
judged_at m faults end d best place next lt at e judged = judged_more m faults end best (get_or faults end d) place next lt (get_or_default faults end d (get_or faults end d) lt) at e judged

-- ---- all faults

pub none_broken : (m : Marks) (faults : List Fault) (end : ℕ) (best : Option (Rule × Place)) → length faults ≤ end → AreJudged m faults end best → (best ≡ None → faults ≡ []) × (faults ≡ [] → end ≤ length faults → best ≡ None)
none_broken m faults end best le judged =
    (λ e. let zero : end ≡ 0 = judged.none e in nil_from_length faults (omega arith), λ e up. none_is best judged.some (let empty : length faults ≡ 0 = ap length e in omega arith))
  where
    nil_from_length : (faults : List Fault) → length faults ≡ 0 → faults ≡ []
    nil_from_length [] e = refl
    nil_from_length (x ∷ xs) e = absurd (omega arith)

    none_is : (best : Option (Rule × Place)) → IfSome best (λ one. 0 < end) → end ≡ 0 → best ≡ None
    none_is None h e = refl
    none_is (Some one) h e = absurd (omega arith)

pub first_is_broken : (m : Marks) (faults : List Fault) (end : ℕ) (best : Option (Rule × Place)) → length faults ≤ end → AreJudged m faults end best → IsOrdered m → IfSome best (IsFirstBroken m faults)
first_is_broken m faults end best le judged ordered = by best (judged.first ordered)
  where
    by : (best : Option (Rule × Place)) → IfSome best (IsFirstUpTo m faults end) → IfSome best (IsFirstBroken m faults)
    by None h = tt
    by (Some one) h = record {
      fault = h.fault;
      member = h.member;
      told = h.told;
      first = λ other inside better. let lt : inside.0 < length faults = inside.1 in h.first inside.0 other (omega arith) (subst (λ f. IsBetter (shown m f) one) (sym inside.2) better);
    }
