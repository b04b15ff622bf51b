-- Runs that go on, and runs that stay as they are.
use Rattle.std.proofs.Common.{◌≡◌, refl, ap, sym, ◌∙◌, subst, ℕ, zero, suc, ◌+◌, ◌-◌, ◌<◌, ◌≤◌, Bool, true, false, if◌then◌else◌, Some, None, sub-one, arith}
use Rattle.jr_base.specs.declared.ids.DeclId.{DeclId}
use Rattle.jr_base.specs.Mirror as t
use Rattle.jr_core.specs.Mirror.{Code, Core}
use Rattle.jr_machine_defs.specs.Prelude.{string_class}
use Rattle.jr_machine_defs.specs.declared.state.RunEnd.{RunEnd}
use Rattle.jr_machine_defs.specs.declared.state.RunEnd.TheVariants as ends
use Rattle.jr_machine_defs.specs.declared.state.Ran.{Ran}
use Rattle.jr_machine_defs.specs.declared.state.State.{State}
use Rattle.jr_machine_defs.specs.States.{Next}
use Rattle.jr_machine_defs.specs.Steps.{next, step, after, steps_made, is_running, start_call, start_with, IsRunFrom, IsRun}
use Rattle.jr_machine_defs.specs.Follows.{Follows, Advances, AdvancesTo}

advances_to : (n : Next) (went : Bool) (old new : State) → Follows n went old new → AdvancesTo n went old new
advances_to None true old new h = absurd h
advances_to None false old new h = (refl, h)
advances_to (Some s) true old new h = ap Some (sym h)
advances_to (Some s) false old new h = absurd h

pub advances : (core : Core) (went : Bool) (old new : State) → Follows (next core old) went old new → Advances core went old new
advances core went old new h = advances_to (next core old) went old new h

step_to : (core : Core) (s t : State) → next core s ≡ Some t → step core s ≡ t
step_to core s t h = rw h refl

step_stays : (core : Core) (s : State) → next core s ≡ None → step core s ≡ s
step_stays core s h = rw h refl

ended_next : (core : Core) (s : State) → is_running s.end ≡ false → next core s ≡ None
ended_next core s h = rw h refl

steps_on : (core : Core) (k : ℕ) (s t : State) → is_running s.end ≡ true → step core s ≡ t → steps_made core (suc k) s ≡ 1 + steps_made core k t
steps_on core k s t running e = ap (λ b. if b then 1 + steps_made core k (step core s) else 0) running ∙ ap (λ x. 1 + steps_made core k x) e

pub runs_on : (core : Core) (k : ℕ) (s t : State) → 0 < k → is_running s.end ≡ true → next core s ≡ Some t
    → (after core k s ≡ after core (k - 1) t) × (steps_made core k s ≡ 1 + steps_made core (k - 1) t)
runs_on core zero s t up running h = absurd (omega arith)
runs_on core (suc k) s t up running h = (rw sub-one (ap (after core k) (step_to core s t h)), rw sub-one (steps_on core k s t running (step_to core s t h)))

pub stays_stuck : (core : Core) (k : ℕ) (s : State) → is_running s.end ≡ true → next core s ≡ None → (after core k s ≡ s) × (steps_made core k s ≡ k)
stays_stuck core zero s running h = (refl, refl)
stays_stuck core (suc k) s running h =
    let rest = stays_stuck core k s running h in
    let one : 1 + k ≡ suc k = omega arith in
    (ap (after core k) (step_stays core s h) ∙ rest.0, steps_on core k s s running (step_stays core s h) ∙ (ap (λ n. 1 + n) rest.1 ∙ one))

pub stays_ended : (core : Core) (k : ℕ) (s : State) → is_running s.end ≡ false → (after core k s ≡ s) × (steps_made core k s ≡ 0)
stays_ended core zero s h = (refl, refl)
stays_ended core (suc k) s h =
    let rest = stays_ended core k s h in
    (ap (after core k) (step_stays core s (ended_next core s h)) ∙ rest.0, rw h refl)

running_end : (e : RunEnd) → is_running e ≡ true → e ≡ ends.Running
running_end ends.Running h = refl
running_end ends.Ended h = cc
running_end (ends.Uncaught class) h = cc
running_end (ends.InitFailed class) h = cc
running_end (ends.Native decl) h = cc

-- ---- so many steps have been made of a run

pub record IsOnTheWay (core : Core) (first : State) (n i : ℕ) (s : State) : Type 0 where
  pub state : after core (n - i) s ≡ after core n first
  pub steps : i + steps_made core (n - i) s ≡ steps_made core n first

pub on_the_way : (core : Core) (first : State) (n i : ℕ) (s t : State) → i < n → is_running s.end ≡ true → next core s ≡ Some t
    → IsOnTheWay core first n i s → IsOnTheWay core first n (i + 1) t
on_the_way core first n i s t in_range running h way =
    let more = runs_on core (n - i) s t (omega arith) running h in
    let left : n - i - 1 ≡ n - (i + 1) = omega arith in
    record {
      state = ap (λ k. after core k t) (sym left) ∙ (sym more.0 ∙ way.state);
      steps = steps_sum i (steps_made core (n - (i + 1)) t) (steps_made core (n - i) s) (steps_made core n first) (more.1 ∙ ap (λ k. 1 + steps_made core k t) left) way.steps;
    }
  where
    steps_sum : (i rest all total : ℕ) → all ≡ 1 + rest → i + all ≡ total → i + 1 + rest ≡ total
    steps_sum i rest all total a b = omega arith

pub ended_run : (core : Core) (first : State) (n i : ℕ) (s : State) (ran : Ran) → is_running s.end ≡ false → IsOnTheWay core first n i s
    → ran.end ≡ s.end → ran.printed ≡ s.printed → ran.steps ≡ i → IsRunFrom core first n ran
ended_run core first n i s ran ended way end printed steps =
    let stays = stays_ended core (n - i) s ended in
    let same : s ≡ after core n first = sym stays.0 ∙ way.state in
    record {
      end = end ∙ ap (λ (x : State). x.end) same;
      printed = printed ∙ ap (λ (x : State). x.printed) same;
      steps = steps ∙ no_more i (steps_made core (n - i) s) (steps_made core n first) stays.1 way.steps;
    }
  where
    no_more : (i rest total : ℕ) → rest ≡ 0 → i + rest ≡ total → i ≡ total
    no_more i rest total a b = omega arith

pub stuck_run : (core : Core) (first : State) (n i : ℕ) (s new : State) (ran : Ran) → i < n → is_running s.end ≡ true → next core s ≡ None → new.printed ≡ s.printed
    → IsOnTheWay core first n i s → ran.end ≡ ends.Running → ran.printed ≡ new.printed → ran.steps ≡ n → IsRunFrom core first n ran
stuck_run core first n i s new ran in_range running none kept way end printed steps =
    let stays = stays_stuck core (n - i) s running none in
    let same : s ≡ after core n first = sym stays.0 ∙ way.state in
    record {
      end = end ∙ (sym (running_end s.end running) ∙ ap (λ (x : State). x.end) same);
      printed = printed ∙ (kept ∙ ap (λ (x : State). x.printed) same);
      steps = steps ∙ all_steps i n (steps_made core (n - i) s) (steps_made core n first) in_range stays.1 way.steps;
    }
  where
    all_steps : (i n rest total : ℕ) → i < n → rest ≡ n - i → i + rest ≡ total → n ≡ total
    all_steps i n rest total up a b = omega arith

pub whole_run : (core : Core) (first : State) (n i : ℕ) (s : State) (ran : Ran) → n ≤ i → i ≤ n → IsOnTheWay core first n i s
    → ran.end ≡ s.end → ran.printed ≡ s.printed → ran.steps ≡ n → IsRunFrom core first n ran
whole_run core first n i s ran low high way end printed steps =
    let none : n - i ≡ 0 = omega arith in
    let same : s ≡ after core n first = ap (λ k. after core k s) (sym none) ∙ way.state in
    record {
      end = end ∙ ap (λ (x : State). x.end) same;
      printed = printed ∙ ap (λ (x : State). x.printed) same;
      steps = steps ∙ whole i n (steps_made core (n - i) s) (steps_made core n first) low high (ap (λ k. steps_made core k s) none) way.steps;
    }
  where
    whole : (i n rest total : ℕ) → n ≤ i → i ≤ n → rest ≡ 0 → i + rest ≡ total → n ≡ total
    whole i n rest total low high a b = omega arith

pub none_made : (core : Core) (s : State) (n : ℕ) → IsOnTheWay core s n 0 s
none_made core s n =
    let all : n - 0 ≡ n = omega arith in
    record { state = ap (λ k. after core k s) all; steps = ap (λ k. 0 + steps_made core k s) all ∙ omega arith }

pub starts_run : (core : Core) (start : DeclId) (item : t.Ty) (call : Code) (n : ℕ) (ran : Ran) → item ≡ t.Class string_class → call ≡ start_call start
    → IsRunFrom core (start_with item call) n ran → IsRun core start n ran
starts_run core start item call n ran a b h =
    let P : t.Ty → Type 0 = λ i. IsRunFrom core (start_with i call) n ran in
    let Q : Code → Type 0 = λ k. IsRunFrom core (start_with (t.Class string_class) k) n ran in
    subst Q b (subst P a h)
