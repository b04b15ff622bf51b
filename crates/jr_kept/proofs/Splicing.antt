-- Points and steps of a body with a method in place of its call, as lists.
use Rattle.std.proofs.Common.{◌≡◌, ◌⊎◌, inl, inr, ⊎_elim, refl, sym, ◌∙◌, ap, subst, arith, ℕ, zero, suc, ◌+◌, ◌-◌, ◌<◌, ◌≤◌, Bool, true, false, if◌then◌else◌, List, [], ◌∷◌, ◌++◌, length, length-append, Some, slice_get}
use Rattle.std.specs.List.{Contains}
use Rattle.std.proofs.lemmas.Bool.{false≢true, cases_lt}
use Rattle.std.proofs.lemmas.Option.{none-some, same_Some}
use Rattle.std.proofs.lemmas.List.{append_assoc}
use Rattle.std.proofs.lemmas.List.Elements.{Contains-append_left, Contains-append_right, Contains-append_cases}
use Rattle.jr_flow_defs.specs.declared.point.Point.{Point}
use Rattle.jr_flow_defs.specs.Graphs.{StepList}
use Rattle.jr_flow_defs.specs.Kept.{is_call_at}
use Rattle.jr_flow_defs.proofs.Searched.{contains_out, contains_first, contains_more}
use Rattle.jr_flow.proofs.Gets.{front_get, behind_get, get_pushed, get_last}
use Rattle.jr_kept.specs.declared.lists.Lists.{Lists}
use Rattle.jr_kept.specs.Listed.{under_in, IsListing}
use Rattle.jr_kept.specs.Spliced.{calls_below, calls_in, copies, base_at, is_same_way, ends_by, AreTargets, IsLeaving, outside_calls, shifted, leading, of_call, of_calls, exit_number, IsJoinedStep, AreJoinedSteps}
use Rattle.jr_kept.proofs.Naming.{get_inside}
use Rattle.jr_kept.proofs.Searching.{under_zero}

none_in : {A : Type 0} (x : A) → Contains [] x → ⊥
none_in x h = absurd (omega (arith, h.1))

-- ---- calls

-- the call acts at the point of the number k, which is one of the first ones
pub record IsCallBelow (points : List Point) (call n k : ℕ) : Type 0 where
  pub few : k < n
  pub acts : is_call_at call (slice_get points k) ≡ true

pushed_if : (xs : List ℕ) (b : Bool) (n s k : ℕ) → slice_get (xs ++ (if b then n ∷ [] else [])) s ≡ Some k → (slice_get xs s ≡ Some k) ⊎ ((b ≡ true) × (s ≡ length xs) × (n ≡ k))
pushed_if xs true n s k e = ⊎_elim (λ early. inl early) (λ last. inr (refl, last.0, last.1)) (get_pushed xs n k s e)
pushed_if xs false n s k e = ⊎_elim (λ early. inl early) (λ past. absurd (none-some k (sym (behind_get xs [] s 0 past) ∙ e))) (front_or_end xs s k e)
  where
    front_or_end : (ys : List ℕ) (t j : ℕ) → slice_get (ys ++ []) t ≡ Some j → (slice_get ys t ≡ Some j) ⊎ (t ≡ length ys + 0)
    front_or_end [] t j f = absurd (none-some j f)
    front_or_end (y ∷ ys) zero j f = inl f
    front_or_end (y ∷ ys) (suc t) j f = ⊎_elim (λ a. inl a) (λ l. inr (omega (arith, l))) (front_or_end ys t j f)

pub call_below : (points : List Point) (call n s k : ℕ) → slice_get (calls_below points call n) s ≡ Some k → IsCallBelow points call n k
call_below points call zero s k e = absurd (none-some k e)
call_below points call (suc n) s k e = ⊎_elim
    (λ early. let one = call_below points call n s k early in let lt = one.few in record { few = omega (arith, lt); acts = one.acts })
    (λ last. let same = last.2 in record { few = omega (arith, same); acts = subst (λ z. is_call_at call (slice_get points z) ≡ true) same last.0 })
    (pushed_if (calls_below points call n) (is_call_at call (slice_get points n)) n s k e)

pub calls_apart : (points : List Point) (call n s t k : ℕ) → slice_get (calls_below points call n) s ≡ Some k → slice_get (calls_below points call n) t ≡ Some k → s ≡ t
calls_apart points call zero s t k e f = absurd (none-some k e)
calls_apart points call (suc n) s t k e f = ⊎_elim
    (λ early. ⊎_elim (λ other. calls_apart points call n s t k early other) (λ last. absurd (past s early last.2)) (cases t f))
    (λ first. ⊎_elim (λ other. absurd (past t other first.2)) (λ last. let a = first.1 in let b = last.1 in omega (arith, a, b)) (cases t f))
    (cases s e)
  where
    cases : (u : ℕ) → slice_get (calls_below points call (suc n)) u ≡ Some k → (slice_get (calls_below points call n) u ≡ Some k) ⊎ ((is_call_at call (slice_get points n) ≡ true) × (u ≡ length (calls_below points call n)) × (n ≡ k))
    cases u g = pushed_if (calls_below points call n) (is_call_at call (slice_get points n)) n u k g

    past : (u : ℕ) → slice_get (calls_below points call n) u ≡ Some k → n ≡ k → ⊥
    past u g same = let lt = (call_below points call n u k g).few in omega (arith, lt, same)

pub call_found : (points : List Point) (call n k : ℕ) → k < n → is_call_at call (slice_get points k) ≡ true → (s : ℕ) × (slice_get (calls_below points call n) s ≡ Some k)
call_found points call zero k lt e = absurd (omega (arith, lt))
call_found points call (suc n) k lt e = ⊎_elim
    (λ early. let one = call_found points call n k early e in (one.0, front_get (calls_below points call n) (if is_call_at call (slice_get points n) then n ∷ [] else []) one.0 (get_inside (calls_below points call n) one.0 k one.1) ∙ one.1))
    (λ past. let same : k ≡ n = omega (arith, lt, past) in (
      length (calls_below points call n),
      ap (λ b. slice_get (calls_below points call n ++ (if b then n ∷ [] else [])) (length (calls_below points call n))) (subst (λ z. is_call_at call (slice_get points z) ≡ true) same e)
          ∙ get_last (calls_below points call n) n ∙ ap Some (sym same),
    ))
    (cases_lt k n)

-- ---- the first number of a copy

pub base_least : (count size turn : ℕ) → count ≤ base_at count size turn
base_least count size zero = omega arith
base_least count size (suc turn) = let le = base_least (count + size) size turn in omega (arith, le)

pub base_rises : (count size s t : ℕ) → s < t → base_at count size s + size ≤ base_at count size t
base_rises count size s zero lt = absurd (omega (arith, lt))
base_rises count size zero (suc t) lt = base_least (count + size) size t
base_rises count size (suc s) (suc t) lt = base_rises (count + size) size s t (omega (arith, lt))

pub base_apart : (count size s t a b : ℕ) → a < size → b < size → base_at count size s + a ≡ base_at count size t + b → (s ≡ t) × (a ≡ b)
base_apart count size s t a b first second same = ⊎_elim
    (λ lt. let le = base_rises count size s t lt in absurd (omega (arith, le, first, same)))
    (λ le. ⊎_elim (λ lt. let more = base_rises count size t s lt in absurd (omega (arith, more, second, same))) (λ other. let is : s ≡ t = omega (arith, le, other) in (is, equal is)) (cases_lt t s))
    (cases_lt s t)
  where
    equal : s ≡ t → a ≡ b
    equal is = let e : base_at count size s ≡ base_at count size t = ap (base_at count size) is in omega (arith, e, same)

-- a point of a copy
pub copy_get : (front points : List Point) (count turn k : ℕ) → turn < count → k < length points → slice_get (front ++ copies count points) (base_at (length front) (length points) turn + k) ≡ slice_get points k
copy_get front points zero turn k lt inside = absurd (omega (arith, lt))
copy_get front points (suc count) zero k lt inside = behind_get front (points ++ copies count points) (length front + k) k refl ∙ front_get points (copies count points) k inside
copy_get front points (suc count) (suc turn) k lt inside =
    ap (λ xs. slice_get xs (base_at (length front + length points) (length points) turn + k)) (sym (append_assoc front points (copies count points)))
    ∙ ap (λ n. slice_get ((front ++ points) ++ copies count points) (base_at n (length points) turn + k)) (sym (length-append front points))
    ∙ copy_get (front ++ points) points count turn k (omega (arith, lt)) inside

pub copies_next : (points : List Point) (count turn : ℕ) → turn < count → copies (count - turn) points ≡ points ++ copies (count - (turn + 1)) points
copies_next points count turn lt = let room : count - turn ≡ suc (count - (turn + 1)) = omega (arith, lt) in ap (λ n. copies n points) room

pub copies_end : (points : List Point) (count turn : ℕ) → count ≤ turn → copies (count - turn) points ≡ []
copies_end points count turn le = let room : count - turn ≡ 0 = omega (arith, le) in ap (λ n. copies n points) room

-- ---- targets

same_way_is : (s t : Bool) → is_same_way s t ≡ true → s ≡ t
same_way_is true true e = refl
same_way_is false true e = absurd (false≢true e)
same_way_is true false e = absurd (false≢true e)
same_way_is false false e = refl

way_same : (t : Bool) → is_same_way t t ≡ true
way_same true = refl
way_same false = refl

ends_out : (t : Bool) (steps : StepList) (i j : ℕ) → Contains (ends_by t steps) (i, j) → Contains steps (i, j, t)
ends_out t [] i j c = absurd (none_in (i, j) c)
ends_out t (s ∷ steps) i j c = ⊎_elim (λ one. by (is_same_way s.2 t) refl one) (λ more. contains_more s steps (i, j, t) (ends_out t steps i j more)) (Contains-append_cases {X = ℕ × ℕ} (if is_same_way s.2 t then (s.0, s.1) ∷ [] else []) (ends_by t steps) (i, j) c)
  where
    by : (b : Bool) → is_same_way s.2 t ≡ b → Contains {X = ℕ × ℕ} (if b then (s.0, s.1) ∷ [] else []) (i, j) → Contains (s ∷ steps) (i, j, t)
    by false is d = absurd (none_in (i, j) d)
    by true is d = ⊎_elim
        (λ same. subst (λ (x : ℕ × ℕ). Contains (s ∷ steps) (x.0, x.1, t)) same (subst (λ z. Contains (s ∷ steps) (s.0, s.1, z)) (same_way_is s.2 t is) (contains_first s steps)))
        (λ more. absurd (none_in (i, j) more)) (contains_out (s.0, s.1) [] (i, j) d)

ends_into : (t : Bool) (steps : StepList) (i j : ℕ) → Contains steps (i, j, t) → Contains (ends_by t steps) (i, j)
ends_into t [] i j c = absurd (none_in (i, j, t) c)
ends_into t (s ∷ steps) i j c = ⊎_elim
    (λ same. Contains-append_left {X = ℕ × ℕ} (if is_same_way s.2 t then (s.0, s.1) ∷ [] else []) (ends_by t steps) (i, j) (subst (λ (x : ℕ × ℕ × Bool). Contains {X = ℕ × ℕ} (if is_same_way x.2 t then (x.0, x.1) ∷ [] else []) (i, j)) (sym same) (subst (λ b. Contains {X = ℕ × ℕ} (if b then (i, j) ∷ [] else []) (i, j)) (sym (way_same t)) (contains_first (i, j) []))))
    (λ more. Contains-append_right {X = ℕ × ℕ} (if is_same_way s.2 t then (s.0, s.1) ∷ [] else []) (ends_by t steps) (i, j) (ends_into t steps i j more))
    (contains_out s steps (i, j, t) c)

pub targets_listed : (lists : Lists) (count : ℕ) (steps : StepList) (t : Bool) → IsListing lists 0 count (ends_by t steps) → AreTargets lists count steps t
targets_listed lists count steps t l i j lt = (
  λ m. ends_out t steps i j (l.listed.only i j (subst (λ ys. Contains ys j) (under_zero lists count (ends_by t steps) i l) m)),
  λ s. subst (λ ys. Contains ys j) (sym (under_zero lists count (ends_by t steps) i l)) (l.listed.every i j (ends_into t steps i j s) (omega arith) (omega (arith, lt))),
)

-- ---- what stands in the lists of steps

outside_out : (points : List Point) (call : ℕ) (steps : StepList) (i j : ℕ) (t : Bool) → Contains (outside_calls points call steps) (i, j, t) → Contains steps (i, j, t) × (is_call_at call (slice_get points i) ≡ false)
outside_out points call [] i j t c = absurd (none_in (i, j, t) c)
outside_out points call (s ∷ steps) i j t c = ⊎_elim (λ one. by (is_call_at call (slice_get points s.0)) refl one) (λ more. let o = outside_out points call steps i j t more in (contains_more s steps (i, j, t) o.0, o.1))
    (Contains-append_cases (if is_call_at call (slice_get points s.0) then [] else s ∷ []) (outside_calls points call steps) (i, j, t) c)
  where
    by : (b : Bool) → is_call_at call (slice_get points s.0) ≡ b → Contains (if b then [] else s ∷ []) (i, j, t) → Contains (s ∷ steps) (i, j, t) × (is_call_at call (slice_get points i) ≡ false)
    by true is d = absurd (none_in (i, j, t) d)
    by false is d = ⊎_elim (λ same. (subst (Contains (s ∷ steps)) same (contains_first s steps), subst (λ (x : ℕ × ℕ × Bool). is_call_at call (slice_get points x.0) ≡ false) same is)) (λ more. absurd (none_in (i, j, t) more)) (contains_out s [] (i, j, t) d)

outside_into : (points : List Point) (call : ℕ) (steps : StepList) (i j : ℕ) (t : Bool) → is_call_at call (slice_get points i) ≡ false → Contains steps (i, j, t) → Contains (outside_calls points call steps) (i, j, t)
outside_into points call [] i j t out c = absurd (none_in (i, j, t) c)
outside_into points call (s ∷ steps) i j t out c = ⊎_elim
    (λ same. Contains-append_left (if is_call_at call (slice_get points s.0) then [] else s ∷ []) (outside_calls points call steps) (i, j, t)
    (subst (λ (x : ℕ × ℕ × Bool). Contains (if is_call_at call (slice_get points x.0) then [] else x ∷ []) (i, j, t)) (sym same) (subst (λ b. Contains {X = ℕ × ℕ × Bool} (if b then [] else (i, j, t) ∷ []) (i, j, t)) (sym out) (contains_first (i, j, t) []))))
    (λ more. Contains-append_right (if is_call_at call (slice_get points s.0) then [] else s ∷ []) (outside_calls points call steps) (i, j, t) (outside_into points call steps i j t out more))
    (contains_out s steps (i, j, t) c)

-- a step of before, whose numbers were less by the base
record IsShifted (base : ℕ) (steps : StepList) (i j : ℕ) (t : Bool) : Type 0 where
  from : ℕ
  to : ℕ
  step : Contains steps (from, to, t)
  starts : i ≡ base + from
  ends : j ≡ base + to

shifted_out : (base : ℕ) (steps : StepList) (i j : ℕ) (t : Bool) → Contains (shifted base steps) (i, j, t) → IsShifted base steps i j t
shifted_out base [] i j t c = absurd (none_in (i, j, t) c)
shifted_out base (s ∷ steps) i j t c = ⊎_elim
    (λ same. record { from = s.0; to = s.1; step = subst (λ z. Contains (s ∷ steps) (s.0, s.1, z)) (ap (λ x. x.2) same) (contains_first s steps); starts = sym (ap (λ x. x.0) same); ends = sym (ap (λ x. x.1) same) })
    (λ more. let o = shifted_out base steps i j t more in record { from = o.from; to = o.to; step = contains_more s steps (o.from, o.to, t) o.step; starts = o.starts; ends = o.ends })
    (contains_out (base + s.0, base + s.1, s.2) (shifted base steps) (i, j, t) c)

shifted_into : (base : ℕ) (steps : StepList) (a b : ℕ) (t : Bool) → Contains steps (a, b, t) → Contains (shifted base steps) (base + a, base + b, t)
shifted_into base [] a b t c = absurd (none_in (a, b, t) c)
shifted_into base (s ∷ steps) a b t c = ⊎_elim
    (λ same. subst (λ (x : ℕ × ℕ × Bool). Contains (shifted base (s ∷ steps)) (base + x.0, base + x.1, x.2)) same (contains_first (base + s.0, base + s.1, s.2) (shifted base steps)))
    (λ more. contains_more (base + s.0, base + s.1, s.2) (shifted base steps) (base + a, base + b, t) (shifted_into base steps a b t more))
    (contains_out s steps (a, b, t) c)

leading_out : (from : ℕ) (s : Bool) (targets : List ℕ) (i j : ℕ) (t : Bool) → Contains (leading from s targets) (i, j, t) → (from ≡ i) × (s ≡ t) × Contains targets j
leading_out from s [] i j t c = absurd (none_in (i, j, t) c)
leading_out from s (to ∷ targets) i j t c = ⊎_elim
    (λ same. (ap (λ x. x.0) same, ap (λ x. x.2) same, subst (Contains (to ∷ targets)) (ap (λ x. x.1) same) (contains_first to targets)))
    (λ more. let o = leading_out from s targets i j t more in (o.0, o.1, contains_more to targets j o.2))
    (contains_out (from, to, s) (leading from s targets) (i, j, t) c)

leading_into : (from : ℕ) (t : Bool) (targets : List ℕ) (j : ℕ) → Contains targets j → Contains (leading from t targets) (from, j, t)
leading_into from t [] j c = absurd (none_in j c)
leading_into from t (to ∷ targets) j c = ⊎_elim
    (λ same. subst (λ z. Contains (leading from t (to ∷ targets)) (from, z, t)) same (contains_first (from, to, t) (leading from t targets)))
    (λ more. contains_more (from, to, t) (leading from t targets) (from, j, t) (leading_into from t targets j more))
    (contains_out to targets j c)

-- ---- the steps at the calls

module _ (plain thrown : ℕ → List ℕ) (inner : StepList) (size : ℕ) where
  -- a step at the call of a turn
  record AtCall (calls : List ℕ) (base : ℕ) (x : ℕ × ℕ × Bool) : Type 0 where
    turn : ℕ
    call : ℕ
    stands : slice_get calls turn ≡ Some call
    step : Contains (of_call (plain call) (thrown call) inner call (base_at base size turn)) x

  calls_out : (calls : List ℕ) (base : ℕ) (x : ℕ × ℕ × Bool) → Contains (of_calls plain thrown inner size calls base) x → AtCall calls base x
  calls_out [] base x c = absurd (none_in x c)
  calls_out (call ∷ calls) base x c = ⊎_elim
      (λ one. record { turn = 0; call = call; stands = refl; step = one })
      (λ more. let o = calls_out calls (base + size) x more in record { turn = suc o.turn; call = o.call; stands = o.stands; step = o.step })
      (Contains-append_cases (of_call (plain call) (thrown call) inner call base) (of_calls plain thrown inner size calls (base + size)) x c)

  calls_into : (calls : List ℕ) (base turn call : ℕ) (x : ℕ × ℕ × Bool) → slice_get calls turn ≡ Some call → Contains (of_call (plain call) (thrown call) inner call (base_at base size turn)) x → Contains (of_calls plain thrown inner size calls base) x
  calls_into [] base turn call x e c = absurd (none-some call e)
  calls_into (one ∷ calls) base zero call x e c = Contains-append_left (of_call (plain one) (thrown one) inner one base) (of_calls plain thrown inner size calls (base + size)) x
      (subst (λ k. Contains (of_call (plain k) (thrown k) inner k base) x) (sym (same_Some one call e)) c)
  calls_into (one ∷ calls) base (suc turn) call x e c = Contains-append_right (of_call (plain one) (thrown one) inner one base) (of_calls plain thrown inner size calls (base + size)) x (calls_into calls (base + size) turn call x e c)

module _ (points : List Point) (call size : ℕ) (outer inner : StepList) (plain thrown : Lists) (l : IsLeaving plain thrown (length points) outer) where
  abbrev IsStep : ℕ → ℕ → Bool → Type 0
  IsStep i j t = IsJoinedStep points call size outer inner i j t

  abbrev at_calls : StepList
  at_calls = of_calls (under_in plain) (under_in thrown) inner size (calls_in points call) (length points)

  one_out : (s k i j : ℕ) (t : Bool) → slice_get (calls_in points call) s ≡ Some k → Contains (of_call (under_in plain k) (under_in thrown k) inner k (base_at (length points) size s)) (i, j, t) → IsStep i j t
  one_out s k i j t e c = ⊎_elim
      (λ enter. let o = leading_out k false (base ∷ []) i j t enter in IsJoinedStep.enters s (subst (λ z. slice_get (calls_in points call) s ≡ Some z) o.0 e) (only_one o.2) (sym o.1))
      (λ later. ⊎_elim
      (λ inside. let o = shifted_out base inner i j t inside in IsJoinedStep.within s k o.from o.to e o.step o.starts o.ends)
      (λ last. ⊎_elim
      (λ back. let o = leading_out (base + 1) false (under_in plain k) i j t back in let step = (l.completing k j lt).0 o.2 in leaves t o.1 (subst (λ z. Contains outer (k, j, z)) o.1 step) (sym o.0))
      (λ back. let o = leading_out (base + 2) true (under_in thrown k) i j t back in let step = (l.throwing k j lt).0 o.2 in leaves_by t o.1 (subst (λ z. Contains outer (k, j, z)) o.1 step) (sym o.0))
      (Contains-append_cases (leading (base + 1) false (under_in plain k)) (leading (base + 2) true (under_in thrown k)) (i, j, t) last))
      (Contains-append_cases (shifted base inner) (leading (base + 1) false (under_in plain k) ++ leading (base + 2) true (under_in thrown k)) (i, j, t) later))
      (Contains-append_cases (leading k false (base ∷ [])) (shifted base inner ++ (leading (base + 1) false (under_in plain k) ++ leading (base + 2) true (under_in thrown k))) (i, j, t) c)
    where
      base : ℕ
      base = base_at (length points) size s

      lt : k < length points
      lt = (call_below points call (length points) s k e).few

      only_one : Contains (base ∷ []) j → j ≡ base
      only_one d = ⊎_elim (λ same. sym same) (λ more. absurd (none_in j more)) (contains_out base [] j d)

      leaves : (u : Bool) → false ≡ u → Contains outer (k, j, u) → i ≡ base + 1 → IsStep i j u
      leaves true same d at = absurd (false≢true same)
      leaves false same d at = IsJoinedStep.leaves s k e d at

      leaves_by : (u : Bool) → true ≡ u → Contains outer (k, j, u) → i ≡ base + 2 → IsStep i j u
      leaves_by true same d at = IsJoinedStep.leaves s k e d at
      leaves_by false same d at = absurd (false≢true (sym same))

  of_one : (s k : ℕ) (x : ℕ × ℕ × Bool) → slice_get (calls_in points call) s ≡ Some k → Contains (of_call (under_in plain k) (under_in thrown k) inner k (base_at (length points) size s)) x → Contains at_calls x
  of_one s k x e c = calls_into (under_in plain) (under_in thrown) inner size (calls_in points call) (length points) s k x e c

  steps_out : (i j : ℕ) (t : Bool) → Contains (outside_calls points call outer ++ at_calls) (i, j, t) → IsStep i j t
  steps_out i j t c = ⊎_elim (λ one. let o = outside_out points call outer i j t one in IsJoinedStep.around o.0 o.1)
      (λ more. let o = calls_out (under_in plain) (under_in thrown) inner size (calls_in points call) (length points) (i, j, t) more in one_out o.turn o.call i j t o.stands o.step)
      (Contains-append_cases (outside_calls points call outer) at_calls (i, j, t) c)

  steps_into : (i j : ℕ) (t : Bool) → IsStep i j t → Contains (outside_calls points call outer ++ at_calls) (i, j, t)
  steps_into i j t (IsJoinedStep.around c out) = Contains-append_left (outside_calls points call outer) at_calls (i, j, t) (outside_into points call outer i j t out c)
  steps_into i j t (IsJoinedStep.enters s e to is) = Contains-append_right (outside_calls points call outer) at_calls (i, j, t) (of_one s i (i, j, t) e
      (Contains-append_left (leading i false (base_at (length points) size s ∷ [])) _ (i, j, t) (subst (λ u. Contains (leading i false (base_at (length points) size s ∷ [])) (i, j, u)) (sym is) (leading_into i false (base_at (length points) size s ∷ []) j (subst (Contains (base_at (length points) size s ∷ [])) (sym to) (contains_first (base_at (length points) size s) []))))))
  steps_into i j t (IsJoinedStep.within s k a b e c from to) = Contains-append_right (outside_calls points call outer) at_calls (i, j, t) (of_one s k (i, j, t) e
      (Contains-append_right (leading k false (base_at (length points) size s ∷ [])) _ (i, j, t) (Contains-append_left (shifted (base_at (length points) size s) inner) _ (i, j, t)
      (subst (λ z. Contains (shifted (base_at (length points) size s) inner) (z, j, t)) (sym from) (subst (λ z. Contains (shifted (base_at (length points) size s) inner) (base_at (length points) size s + a, z, t)) (sym to) (shifted_into (base_at (length points) size s) inner a b t c))))))
  steps_into i j t (IsJoinedStep.leaves s k e c from) = Contains-append_right (outside_calls points call outer) at_calls (i, j, t) (of_one s k (i, j, t) e
      (Contains-append_right (leading k false (base ∷ [])) _ (i, j, t) (Contains-append_right (shifted base inner) _ (i, j, t) (by t c from))))
    where
      base : ℕ
      base = base_at (length points) size s

      lt : k < length points
      lt = (call_below points call (length points) s k e).few

      by : (u : Bool) → Contains outer (k, j, u) → i ≡ base + exit_number u → Contains (leading (base + 1) false (under_in plain k) ++ leading (base + 2) true (under_in thrown k)) (i, j, u)
      by true d at = Contains-append_right (leading (base + 1) false (under_in plain k)) (leading (base + 2) true (under_in thrown k)) (i, j, true)
          (subst (λ z. Contains (leading (base + 2) true (under_in thrown k)) (z, j, true)) (sym at) (leading_into (base + 2) true (under_in thrown k) j ((l.throwing k j lt).1 d)))
      by false d at = Contains-append_left (leading (base + 1) false (under_in plain k)) (leading (base + 2) true (under_in thrown k)) (i, j, false)
          (subst (λ z. Contains (leading (base + 1) false (under_in plain k)) (z, j, false)) (sym at) (leading_into (base + 1) false (under_in plain k) j ((l.completing k j lt).1 d)))

  pub joined_listed : (steps : StepList) → steps ≡ outside_calls points call outer ++ at_calls → AreJoinedSteps points call size outer inner steps
  joined_listed steps is i j t = (λ c. steps_out i j t (subst (λ xs. Contains xs (i, j, t)) is c), λ s. subst (λ xs. Contains xs (i, j, t)) (sym is) (steps_into i j t s))
