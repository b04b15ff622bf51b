-- Steps and runs in cores that are the same.
use Rattle.std.proofs.Common.{◌≡◌, refl, ap, ◌∙◌, ℕ, zero, suc, ◌+◌, cond, List, [], ◌∷◌, Option, Some, None}
use Rattle.std.specs.Prelude.{unwrap_or}
use Rattle.jr_base.specs.declared.ids.DeclId.{DeclId}
use Rattle.jr_base.specs.declared.ids.TypeId.{TypeId}
use Rattle.jr_core.specs.Mirror.{Core}
use Rattle.jr_machine_defs.specs.declared.work.Exit.{Exit}
use Rattle.jr_machine_defs.specs.declared.work.Work.{Work}
use Rattle.jr_machine_defs.specs.declared.work.Work.TheVariants as w
use Rattle.jr_machine_defs.specs.declared.state.RunEnd.{RunEnd}
use Rattle.jr_machine_defs.specs.declared.state.State.{State}
use Rattle.jr_machine_defs.specs.declared.state.Ran.{Ran}
use Rattle.jr_machine_defs.specs.Initialization.{created_class, used_class, target_class, first_use}
use Rattle.jr_machine_defs.specs.Places.{read_old}
use Rattle.jr_machine_defs.specs.Finishing.{finishes}
use Rattle.jr_machine_defs.specs.Steps.{evaluates, after_first_use, begins_any, exits, acts, acts_any, is_running, next, step, start_of, after, steps_made, printed_of, IsRunFrom}
use Rattle.jr_machine_defs.specs.States.{Next, with_work, add_work}
use Rattle.jr_machine_laws.specs.SameCore.{SameCore}
use Rattle.jr_machine_laws.proofs.SamePlaces.{read_old_same, begins_same, target_class_same, created_class_same, used_class_same}
use Rattle.jr_machine_laws.proofs.SameFinishing.{finishes_same, unwinds_same}

abbrev end_in : State → RunEnd
end_in s = s.end

abbrev printed_in : State → List ℕ
printed_in s = s.printed

module _ (a b : Core) (same : SameCore a b) where
  first_use_of : (any : Option TypeId) (item : Work) (s : State) {x y : Next} → x ≡ y → after_first_use a any item s x ≡ after_first_use b any item s y
  first_use_of None item s e = e
  first_use_of (Some class) item s e = ap Some (begins_same a b same class (add_work (item ∷ []) s))

  begins_any_same : (any : Option TypeId) (s : State) → begins_any a any s ≡ begins_any b any s
  begins_any_same None s = refl
  begins_any_same (Some class) s = begins_same a b same class s

  exits_same : (leaving : Exit) (work : List Work) (s : State) → exits a leaving work s ≡ exits b leaving work s
  exits_same leaving [] s = refl
  exits_same leaving (item ∷ rest) s = unwinds_same a b same leaving item (with_work rest s)

  acts_same : (item : Work) (s : State) → acts a item s ≡ acts b item s
  acts_same (w.Eval code) s =
      ap (λ any. after_first_use a (first_use s.begun any) (w.Eval code) s (evaluates code s)) (created_class_same a b same code)
      ∙ first_use_of (first_use s.begun (created_class b code)) (w.Eval code) s refl
  acts_same (w.Finish code) s =
      ap (λ any. after_first_use a (first_use s.begun any) (w.Finish code) s (finishes a code s)) (used_class_same a b same code)
      ∙ first_use_of (first_use s.begun (used_class b code)) (w.Finish code) s (finishes_same a b same code s)
  acts_same (w.ReadOld target) s =
      ap (λ any. after_first_use a (first_use s.begun any) (w.ReadOld target) s (read_old a target s)) (target_class_same a b same target)
      ∙ first_use_of (first_use s.begun (target_class b target)) (w.ReadOld target) s (read_old_same a b same target s)
  acts_same (w.Begin class) s = ap Some (begins_any_same (first_use s.begun (Some class)) s)
  acts_same (w.Exiting leaving) s = exits_same leaving s.frame.work s
  acts_same item s = refl

  acts_any_same : (work : List Work) (s : State) → acts_any a work s ≡ acts_any b work s
  acts_any_same [] s = refl
  acts_any_same (item ∷ rest) s = acts_same item (with_work rest s)

  -- ---- steps

  pub next_same : (s : State) → next a s ≡ next b s
  next_same s = λ i. cond (is_running s.end) (acts_any_same s.frame.work s i) None

  pub step_same : (s : State) → step a s ≡ step b s
  step_same s = λ i. unwrap_or (next_same s i) s

  pub after_same : (n : ℕ) (s : State) → after a n s ≡ after b n s
  after_same zero s = refl
  after_same (suc n) s = ap (after a n) (step_same s) ∙ after_same n (step b s)

  pub steps_made_same : (n : ℕ) (s : State) → steps_made a n s ≡ steps_made b n s
  steps_made_same zero s = refl
  steps_made_same (suc n) s = ap (λ k. cond (is_running s.end) (1 + k) 0) (ap (steps_made a n) (step_same s) ∙ steps_made_same n (step b s))

  -- ---- runs

  pub printed_same : (start : DeclId) (n : ℕ) → printed_of a start n ≡ printed_of b start n
  printed_same start n = ap printed_in (after_same n (start_of start))

  pub run_same : (s : State) (n : ℕ) (ran : Ran) → IsRunFrom a s n ran → IsRunFrom b s n ran
  run_same s n ran h = record {
    end = h.end ∙ ap end_in (after_same n s);
    printed = h.printed ∙ ap printed_in (after_same n s);
    steps = h.steps ∙ steps_made_same n s;
  }
