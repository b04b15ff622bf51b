-- Places of control in code, as the definitions have them.
use Rattle.std.specs.Prelude.{◌≡◌, ℕ, zero, suc, ◌+◌, ◌<◌, List, [], ◌∷◌, map, Option, Some, None, slice_get}
use Rattle.jr_flow.specs.declared.leaving.Moment as code_moment
use Rattle.jr_flow.specs.declared.leaving.Moment.TheVariants as when
use Rattle.jr_flow.specs.declared.leaving.State as code
use Rattle.jr_flow.specs.declared.leaving.Way as code_way
use Rattle.jr_flow.specs.declared.pending.Waiting.{Waiting}
use Rattle.jr_flow_defs.specs.Acts.{Completion}
use Rattle.jr_flow_defs.specs.States.{Moment, before, completed, Pending, State, Hop}
use Rattle.jr_flow.specs.Seen.{completion_seen}

abbrev pub moment_seen : code_moment.Moment → Moment
moment_seen (when.Before act) = before act
moment_seen (when.Completed completion) = completed (completion_seen completion)

-- a state with this list of what is pending
abbrev pub state_with : Pending → code.State → State
state_with w a = record { row = a.row; moment = moment_seen a.moment; pending = w }

-- ---- lists of what is pending, by their numbers

-- the list with the number 1 is the first
abbrev pub entry : List Waiting → ℕ → Option Waiting
entry all zero = None
entry all (suc n) = slice_get all n

abbrev pub waiting_then : (ℕ → Pending) → Option Waiting → Pending
waiting_then rest None = []
waiting_then rest (Some x) = completion_seen x.completion ∷ rest x.outer

-- the list of a number, of so many completions at most
abbrev pub listed : List Waiting → ℕ → ℕ → Pending
listed all zero n = []
listed all (suc room) n = waiting_then (listed all room) (entry all n)

abbrev pub list_seen : List Waiting → ℕ → Pending
list_seen all n = listed all n n

-- each list has a greater number than the one round it
pub record IsRising (all : List Waiting) : Type 0 where
  pub outer : (n : ℕ) (x : Waiting) → entry all n ≡ Some x → x.outer < n

abbrev pub state_seen : List Waiting → code.State → State
state_seen lists a = state_with (list_seen lists a.list) a

abbrev pub way_seen : List Waiting → code_way.Way → Hop State
way_seen lists way = record { to = state_seen lists way.to; is_throw = way.is_throw }

abbrev pub ways_seen : List Waiting → List code_way.Way → List (Hop State)
ways_seen lists ways = map (way_seen lists) ways
