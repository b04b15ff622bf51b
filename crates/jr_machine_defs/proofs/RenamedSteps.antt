-- A step and a run under a renaming.
use Rattle.std.proofs.Common.{◌≡◌, refl, sym, ap, ◌∙◌, ℕ, zero, suc, ◌+◌, Bool, cond, List, [], ◌∷◌, ◌++◌, map, Option, Some, None}
use Rattle.std.specs.Option.{option_map}
use Rattle.std.specs.Prelude.{unwrap_or}
use Rattle.jr_base.specs.declared.ids.DeclId.{DeclId}
use Rattle.jr_base.specs.declared.ids.TypeId.{TypeId}
use Rattle.jr_base.specs.Mirror as t
use Rattle.jr_core.specs.Mirror as m
use Rattle.jr_core.specs.Mirror.{Code, Core}
use Rattle.jr_machine_defs.specs.declared.value.Value.TheVariants as v
use Rattle.jr_machine_defs.specs.declared.heap.Cell.TheVariants as cell
use Rattle.jr_machine_defs.specs.declared.work.Exit.{Exit}
use Rattle.jr_machine_defs.specs.declared.work.Work.{Work}
use Rattle.jr_machine_defs.specs.declared.work.Work.TheVariants as w
use Rattle.jr_machine_defs.specs.declared.state.Purpose.TheVariants as purpose
use Rattle.jr_machine_defs.specs.declared.state.RunEnd.{RunEnd}
use Rattle.jr_machine_defs.specs.declared.state.RunEnd.TheVariants as ends
use Rattle.jr_machine_defs.specs.declared.state.Ran.{Ran}
use Rattle.jr_machine_defs.specs.declared.state.State.{State}
use Rattle.jr_machine_defs.specs.Prelude.{object_class, string_class}
use Rattle.jr_machine_defs.specs.Values.{value_of}
use Rattle.jr_machine_defs.specs.Parts.{parts, target_parts, after_body}
use Rattle.jr_machine_defs.specs.Initialization.{created_class, used_class, target_class, first_use}
use Rattle.jr_machine_defs.specs.Finishing.{pushes_any}
use Rattle.jr_machine_defs.specs.Steps.{evaluates, after_first_use, begins_any, finally_of, exits, acts, acts_any, is_running, next, step, start_call, start_of, after, steps_made, run_of, printed_of, IsRun}
use Rattle.jr_machine_defs.specs.States.{Next, add_work, with_work}
use Rattle.jr_machine_defs.specs.Renamed.{IsRenaming, renamed_type, renamed_code, renamed_core, renamed_exit, renamed_work, renamed_end, renamed_state, renamed_next, renamed_ran}
use Rattle.jr_machine_defs.proofs.RenamedValues.{value_of_renamed}
use Rattle.jr_machine_defs.proofs.RenamedParts.{work_joined, parts_renamed, target_parts_renamed, after_body_renamed}
use Rattle.jr_machine_defs.proofs.RenamedStates.{Alike, goes, stops, along, if_alike, work_added}
use Rattle.jr_machine_defs.proofs.RenamedClasses.{object_kept, string_kept}
use Rattle.jr_machine_defs.proofs.RenamedInitialization.{begins_renamed, target_class_renamed, created_class_renamed, used_class_renamed, first_use_renamed}
use Rattle.jr_machine_defs.proofs.RenamedFinishing.{pushes_any_alike, finally_work_renamed, finishes_alike}
use Rattle.jr_machine_defs.proofs.RenamedPlaces.{read_old_alike}
use Rattle.jr_machine_defs.proofs.RenamedExits.{unwinds_alike, leaves_alike, leaves_by_alike}

-- the start of a run, in a frame of this class, on an array of such components
abbrev start_in : t.Ty → TypeId → Code → State
start_in item class call = record {
  heap = cell.Array item [] ∷ [];
  statics = [];
  begun = [];
  callers = [];
  printed = [];
  end = ends.Running;
  frame = record { purpose = purpose.Method; class = class; this = v.Null; locals = []; work = w.Finish call ∷ []; values = v.Ref 0 ∷ [] };
}

abbrev printed_in : State → List ℕ
printed_in s = s.printed

abbrev end_in : State → RunEnd
end_in s = s.end

module _ (f : DeclId → DeclId) (p : IsRenaming f) where
  -- ---- the top item

  evaluates_alike : (code : Code) (s : State) → Alike f (evaluates (renamed_code f code) (renamed_state f s)) (evaluates code s)
  evaluates_alike (m.Lit value) s = goes refl
  evaluates_alike (m.Var local) s =
      along (ap (λ x. pushes_any x (renamed_state f s)) (value_of_renamed f p s.frame.locals local)) (pushes_any_alike f p (value_of s.frame.locals local) s)
  evaluates_alike code s = goes (work_added f (parts code) s (parts_renamed f code))

  first_use_of : (core : Core) (any : Option TypeId) (item : Work) (s : State) {x y : Next} → Alike f x y
      → Alike f (after_first_use (renamed_core f core) (option_map (renamed_type f) any) (renamed_work f item) (renamed_state f s) x) (after_first_use core any item s y)
  first_use_of core None item s h = h
  first_use_of core (Some class) item s h = goes (begins_renamed f p core class (add_work (item ∷ []) s))

  after_first_use_alike : (core : Core) (any : Option TypeId) (item : Work) (s : State) {other : Option TypeId} {x y : Next} → other ≡ option_map (renamed_type f) any → Alike f x y
      → Alike f (after_first_use (renamed_core f core) (first_use (map (renamed_type f) s.begun) other) (renamed_work f item) (renamed_state f s) x)
      (after_first_use core (first_use s.begun any) item s y)
  after_first_use_alike core any item s {other} {x} {y} e h =
      along (ap (λ c. after_first_use (renamed_core f core) c (renamed_work f item) (renamed_state f s) x) (ap (first_use (map (renamed_type f) s.begun)) e ∙ first_use_renamed f p s.begun any))
      (first_use_of core (first_use s.begun any) item s h)

  begins_any_renamed : (core : Core) (any : Option TypeId) (s : State)
      → begins_any (renamed_core f core) (option_map (renamed_type f) any) (renamed_state f s) ≡ renamed_state f (begins_any core any s)
  begins_any_renamed core None s = refl
  begins_any_renamed core (Some class) s = begins_renamed f p core class s

  finally_of_renamed : (code : Code) → finally_of (renamed_code f code) ≡ map (renamed_work f) (finally_of code)
  finally_of_renamed (m.Try body ks last) = finally_work_renamed f p last
  finally_of_renamed code = refl

  exits_alike : (core : Core) (leaving : Exit) (work : List Work) (s : State)
      → Alike f (exits (renamed_core f core) (renamed_exit f leaving) (map (renamed_work f) work) (renamed_state f s)) (exits core leaving work s)
  exits_alike core leaving [] s = leaves_by_alike f p leaving s
  exits_alike core leaving (item ∷ rest) s = unwinds_alike f p core leaving item (with_work rest s)

  -- a target is replaced by its parts and its finishing item
  target_alike : (target : Code) (item : Work) (s : State)
      → Alike f (Some (add_work (target_parts (renamed_code f target) ++ renamed_work f item ∷ []) (renamed_state f s))) (Some (add_work (target_parts target ++ item ∷ []) s))
  target_alike target item s =
      goes (work_added f (target_parts target ++ item ∷ []) s (work_joined f (target_parts target) (item ∷ []) (target_parts_renamed f target) refl))

  acts_alike : (core : Core) (item : Work) (s : State) → Alike f (acts (renamed_core f core) (renamed_work f item) (renamed_state f s)) (acts core item s)
  acts_alike core (w.Eval code) s =
      after_first_use_alike core (created_class core code) (w.Eval code) s (created_class_renamed f p core code) (evaluates_alike code s)
  acts_alike core (w.Finish code) s =
      after_first_use_alike core (used_class core code) (w.Finish code) s (used_class_renamed f p core code) (finishes_alike f p core code s)
  acts_alike core (w.Target target) s = target_alike target w.Nothing s
  acts_alike core w.Nothing s = goes refl
  acts_alike core (w.OldValue target) s = target_alike target (w.ReadOld target) s
  acts_alike core (w.ReadOld target) s =
      after_first_use_alike core (target_class core target) (w.ReadOld target) s (target_class_renamed f p core target) (read_old_alike f p core target s)
  acts_alike core (w.AfterBody loop) s = goes (work_added f (after_body loop) s (after_body_renamed f loop))
  acts_alike core w.Breakable s = goes refl
  acts_alike core (w.Finally code) s = goes (work_added f (finally_of code) s (finally_of_renamed code))
  acts_alike core (w.Begin class) s =
      goes (ap (λ c. begins_any (renamed_core f core) c (renamed_state f s)) (first_use_renamed f p s.begun (Some class)) ∙ begins_any_renamed core (first_use s.begun (Some class)) s)
  acts_alike core (w.Exiting leaving) s = exits_alike core leaving s.frame.work s

  acts_any_alike : (core : Core) (work : List Work) (s : State) → Alike f (acts_any (renamed_core f core) (map (renamed_work f) work) (renamed_state f s)) (acts_any core work s)
  acts_any_alike core [] s = leaves_alike f p s.callers s.frame.purpose v.Void s
  acts_any_alike core (item ∷ rest) s = acts_alike core item (with_work rest s)

  -- ---- steps

  is_running_renamed : (end : RunEnd) → is_running (renamed_end f end) ≡ is_running end
  is_running_renamed ends.Running = refl
  is_running_renamed ends.Ended = refl
  is_running_renamed (ends.Uncaught class) = refl
  is_running_renamed (ends.InitFailed class) = refl
  is_running_renamed (ends.Native method) = refl

  next_alike : (core : Core) (s : State) → Alike f (next (renamed_core f core) (renamed_state f s)) (next core s)
  next_alike core s = if_alike (is_running_renamed s.end) (acts_any_alike core s.frame.work s) stops

  unwrapped : (any : Next) (s : State) → unwrap_or (renamed_next f any) (renamed_state f s) ≡ renamed_state f (unwrap_or any s)
  unwrapped None s = refl
  unwrapped (Some new) s = refl

  pub step_renamed : (core : Core) (s : State) → step (renamed_core f core) (renamed_state f s) ≡ renamed_state f (step core s)
  step_renamed core s = ap (λ x. unwrap_or x (renamed_state f s)) (let h = next_alike core s in h.same) ∙ unwrapped (next core s) s

  pub after_renamed : (core : Core) (n : ℕ) (s : State) → after (renamed_core f core) n (renamed_state f s) ≡ renamed_state f (after core n s)
  after_renamed core zero s = refl
  after_renamed core (suc n) s = ap (after (renamed_core f core) n) (step_renamed core s) ∙ after_renamed core n (step core s)

  made_on : (b : Bool) (x y : ℕ) → x ≡ y → cond b (1 + x) 0 ≡ cond b (1 + y) 0
  made_on b x y e = ap (λ k. cond b (1 + k) 0) e

  steps_made_renamed : (core : Core) (n : ℕ) (s : State) → steps_made (renamed_core f core) n (renamed_state f s) ≡ steps_made core n s
  steps_made_renamed core zero s = refl
  steps_made_renamed core (suc n) s =
      ap (λ b. cond b (1 + steps_made (renamed_core f core) n (step (renamed_core f core) (renamed_state f s))) 0) (is_running_renamed s.end)
      ∙ made_on (is_running s.end) (steps_made (renamed_core f core) n (step (renamed_core f core) (renamed_state f s))) (steps_made core n (step core s))
      (ap (steps_made (renamed_core f core) n) (step_renamed core s) ∙ steps_made_renamed core n (step core s))

  -- ---- runs

  pub start_renamed : (start : DeclId) → start_of (f start) ≡ renamed_state f (start_of start)
  start_renamed start = sym (ap (λ c. start_in c (renamed_type f object_class) (start_call (f start))) (string_kept f p) ∙ ap (λ c. start_in (t.Class string_class) c (start_call (f start))) (object_kept f p))

  run_renamed : (core : Core) (start : DeclId) (n : ℕ) → run_of (renamed_core f core) (f start) n ≡ renamed_state f (run_of core start n)
  run_renamed core start n = ap (after (renamed_core f core) n) (start_renamed start) ∙ after_renamed core n (start_of start)

  over_renamed : (core : Core) (start : DeclId) (n : ℕ) → steps_made (renamed_core f core) n (start_of (f start)) ≡ steps_made core n (start_of start)
  over_renamed core start n = ap (steps_made (renamed_core f core) n) (start_renamed start) ∙ steps_made_renamed core n (start_of start)

  pub printed_renamed : (core : Core) (start : DeclId) (n : ℕ) → printed_of (renamed_core f core) (f start) n ≡ printed_of core start n
  printed_renamed core start n = ap printed_in (run_renamed core start n)

  pub answer_renamed : (core : Core) (start : DeclId) (n : ℕ) (ran : Ran) → IsRun core start n ran → IsRun (renamed_core f core) (f start) n (renamed_ran f ran)
  answer_renamed core start n ran h = record {
    end = ap (renamed_end f) h.end ∙ sym (ap end_in (run_renamed core start n));
    printed = h.printed ∙ sym (printed_renamed core start n);
    steps = h.steps ∙ sym (over_renamed core start n);
  }
