-- A step of the machine, a run, and what it prints.
use Rattle.std.specs.Prelude.{◌≡◌, ℕ, zero, suc, ◌+◌, Bool, true, false, if◌then◌else◌, List, [], ◌∷◌, ◌++◌, Option, Some, None, unwrap_or}
use Rattle.jr_base.specs.declared.ids.DeclId.{DeclId}
use Rattle.jr_base.specs.declared.ids.TypeId.{TypeId}
use Rattle.jr_core.specs.Mirror as m
use Rattle.jr_core.specs.Mirror.{Code, Core, Body}
use Rattle.jr_base.specs.Mirror as t
use Rattle.jr_machine_defs.specs.declared.value.Value.{Value}
use Rattle.jr_machine_defs.specs.declared.value.Value.TheVariants as v
use Rattle.jr_machine_defs.specs.declared.heap.Cell.TheVariants as cell
use Rattle.jr_machine_defs.specs.declared.work.Exit.{Exit}
use Rattle.jr_machine_defs.specs.declared.work.Work.{Work}
use Rattle.jr_machine_defs.specs.declared.work.Work.TheVariants as w
use Rattle.jr_machine_defs.specs.declared.state.Purpose.TheVariants as purpose
use Rattle.jr_machine_defs.specs.declared.state.RunEnd.{RunEnd}
use Rattle.jr_machine_defs.specs.declared.state.RunEnd.TheVariants as ends
use Rattle.jr_machine_defs.specs.declared.state.State.{State}
use Rattle.jr_machine_defs.specs.declared.state.Ran.{Ran}
use Rattle.jr_machine_defs.specs.Prelude.{object_class, string_class}
use Rattle.jr_machine_defs.specs.Values.{value_of}
use Rattle.jr_machine_defs.specs.Classes.{body_in, is_among}
use Rattle.jr_machine_defs.specs.Parts.{parts, target_parts, literal, after_body}
use Rattle.jr_machine_defs.specs.Places.{read_old}
use Rattle.jr_machine_defs.specs.Initialization.{begins, created_class, used_class, target_class, first_use}
use Rattle.jr_machine_defs.specs.Calls.{enters, runs_any}
use Rattle.jr_machine_defs.specs.Finishing.{finishes, pushes_any, finally_work}
use Rattle.jr_machine_defs.specs.Exits.{unwinds, leaves, leaves_by}
use Rattle.jr_machine_defs.specs.States.{Next, add_work, with_work, push_value}

-- a literal or a local gives its value at once; all else is replaced by its parts and its finishing item
abbrev pub evaluates : Code → State → Next
evaluates (m.Lit value) s = Some (push_value (literal value) s)
evaluates (m.Var local) s = pushes_any (value_of s.frame.locals local) s
evaluates code s = Some (add_work (parts code) s)

-- where the initialization of that class has not begun it begins, and the item stays; else the item acts
abbrev pub after_first_use : Core → Option TypeId → Work → State → Next → Next
after_first_use core None item s next = next
after_first_use core (Some class) item s next = Some (begins core class (add_work (item ∷ []) s))

abbrev pub begins_any : Core → Option TypeId → State → State
begins_any core None s = s
begins_any core (Some class) s = begins core class s

abbrev pub finally_of : Code → List Work
finally_of (m.Try body ks last) = finally_work last
finally_of code = []

abbrev pub exits : Core → Exit → List Work → State → Next
exits core leaving [] s = leaves_by leaving s
exits core leaving (item ∷ rest) s = unwinds core leaving item (with_work rest s)

-- the top item, taken off, acts
abbrev pub acts : Core → Work → State → Next
acts core (w.Eval code) s = after_first_use core (first_use s.begun (created_class core code)) (w.Eval code) s (evaluates code s)
acts core (w.Finish code) s = after_first_use core (first_use s.begun (used_class core code)) (w.Finish code) s (finishes core code s)
acts core (w.Target target) s = Some (add_work (target_parts target ++ w.Nothing ∷ []) s)
acts core w.Nothing s = Some s
acts core (w.OldValue target) s = Some (add_work (target_parts target ++ w.ReadOld target ∷ []) s)
acts core (w.ReadOld target) s = after_first_use core (first_use s.begun (target_class core target)) (w.ReadOld target) s (read_old core target s)
acts core (w.AfterBody loop) s = Some (add_work (after_body loop) s)
acts core w.Breakable s = Some s
acts core (w.Finally code) s = Some (add_work (finally_of code) s)
acts core (w.Begin class) s = Some (begins_any core (first_use s.begun (Some class)) s)
acts core (w.Exiting leaving) s = exits core leaving s.frame.work s

abbrev pub acts_any : Core → List Work → State → Next
acts_any core [] s = leaves s.callers s.frame.purpose v.Void s
acts_any core (item ∷ rest) s = acts core item (with_work rest s)

abbrev pub is_running : RunEnd → Bool
is_running ends.Running = true
is_running end = false

-- the next state, where the run has not ended and a line covers the top item
abbrev pub next : Core → State → Next
next core s = if is_running s.end then acts_any core s.frame.work s else None

-- one step: what has ended, or is covered by no line, stays as it is
abbrev pub step : Core → State → State
step core s = unwrap_or (next core s) s

-- ---- runs

-- before the run: a static call of the start method on a new array of strings of length 0
abbrev pub start_call : DeclId → Code
start_call start = m.Call m.no_code false start (m.more_codes (m.Lit None) m.no_codes)

abbrev pub start_with : t.Ty → Code → State
start_with item call = record {
  heap = cell.Array item [] ∷ [];
  statics = [];
  begun = [];
  callers = [];
  printed = [];
  end = ends.Running;
  frame = record {
    purpose = purpose.Method;
    class = object_class;
    this = v.Null;
    locals = [];
    work = w.Finish call ∷ [];
    values = v.Ref 0 ∷ [];
  };
}

abbrev pub start_of : DeclId → State
start_of start = start_with (t.Class string_class) (start_call start)

-- the state after so many steps
abbrev pub after : Core → ℕ → State → State
after core zero s = s
after core (suc n) s = after core n (step core s)

-- how many of so many steps are made before the run has ended
abbrev pub steps_made : Core → ℕ → State → ℕ
steps_made core zero s = 0
steps_made core (suc n) s = if is_running s.end then 1 + steps_made core n (step core s) else 0

-- the state after so many steps of a run
abbrev pub run_of : Core → DeclId → ℕ → State
run_of core start n = after core n (start_of start)

-- what a run prints in so many steps
abbrev pub printed_of : Core → DeclId → ℕ → List ℕ
printed_of core start n = let s = run_of core start n in s.printed

-- how the run from this state ends in at most so many steps, what it prints, and how many steps it makes
pub record IsRunFrom (core : Core) (s : State) (n : ℕ) (ran : Ran) : Type 0 where
  pub end : ran.end ≡ (after core n s).end
  pub printed : ran.printed ≡ (after core n s).printed
  pub steps : ran.steps ≡ steps_made core n s

-- the same of the run of a method
abbrev pub IsRun : Core → DeclId → ℕ → Ran → Type 0
IsRun core start n ran = IsRunFrom core (start_of start) n ran
