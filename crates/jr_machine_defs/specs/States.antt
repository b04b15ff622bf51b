-- Changes of a state.
use Rattle.std.specs.Prelude.{ℕ, zero, suc, List, [], ◌∷◌, ◌++◌, length, Option, Some, None}
use Rattle.jr_base.specs.declared.ids.DeclId.{DeclId}
use Rattle.jr_machine_defs.specs.declared.value.Value.{Value}
use Rattle.jr_machine_defs.specs.declared.value.Value.TheVariants as v
use Rattle.jr_machine_defs.specs.declared.heap.Cell.{Cell}
use Rattle.jr_machine_defs.specs.declared.heap.Cell.TheVariants as cell
use Rattle.jr_machine_defs.specs.declared.outcome.Fault.{Fault}
use Rattle.jr_machine_defs.specs.declared.outcome.Outcome.{Outcome}
use Rattle.jr_machine_defs.specs.declared.outcome.Outcome.TheVariants as o
use Rattle.jr_machine_defs.specs.declared.work.Work.{Work}
use Rattle.jr_machine_defs.specs.declared.work.Work.TheVariants as w
use Rattle.jr_machine_defs.specs.declared.work.Exit.TheVariants as exit
use Rattle.jr_machine_defs.specs.declared.state.State.{State}
use Rattle.jr_machine_defs.specs.Prelude.{fault_class}
use Rattle.jr_machine_defs.specs.Values.{assigned}

abbrev pub with_work : List Work → State → State
with_work work s = record s { frame = record s.frame { work = work } }

abbrev pub with_values : List Value → State → State
with_values values s = record s { frame = record s.frame { values = values } }

abbrev pub with_heap : List Cell → State → State
with_heap heap s = record s { heap = heap }

abbrev pub add_work : List Work → State → State
add_work work s = with_work (work ++ s.frame.work) s

abbrev pub push_value : Value → State → State
push_value value s = with_values (value ∷ s.frame.values) s

-- the local variable has this value
abbrev pub set_local : DeclId → Value → State → State
set_local local value s = record s { frame = record s.frame { locals = assigned s.frame.locals local value } }

-- a new cell stands at the end of the heap
abbrev pub add_cell : Cell → State → State
add_cell c s = with_heap (s.heap ++ c ∷ []) s

-- a value is thrown (JLS 14.18)
abbrev pub throws : Value → State → State
throws value s = add_work (w.Exiting (exit.Throw value) ∷ []) s

-- a new exception of the machine, without a message, is thrown (JLS 15.6)
abbrev pub raises : Fault → State → State
raises fault s = throws (v.Ref (length s.heap)) (add_cell (cell.Object (fault_class fault) v.Null []) s)

-- ---- what the next step is, where there is one

abbrev pub Next : Type 0
Next = Option State

-- with the top value, taken off
abbrev pub with_one : List Value → State → (Value → State → Next) → Next
with_one [] s f = None
with_one (a ∷ rest) s f = f a (with_values rest s)

-- with the two top values, taken off, the upper one last
abbrev pub with_two : List Value → State → (Value → Value → State → Next) → Next
with_two (b ∷ a ∷ rest) s f = f a b (with_values rest s)
with_two (b ∷ []) s f = None
with_two [] s f = None

-- with so many top values, taken off, the uppermost last, before the values in `args`
abbrev pub with_some : ℕ → List Value → List Value → State → (List Value → State → Next) → Next
with_some zero args values s f = f args (with_values values s)
with_some (suc count) args [] s f = None
with_some (suc count) args (a ∷ rest) s f = with_some count (a ∷ args) rest s f

-- with what an operation gives, or where it makes a string, with that; a fault is thrown
abbrev pub with_outcome : Outcome → State → (Value → State → Next) → Next
with_outcome (o.Gives value) s f = f value s
with_outcome (o.Makes units) s f = f (v.Ref (length s.heap)) (add_cell (cell.Text units) s)
with_outcome (o.Throws fault) s f = Some (raises fault s)
with_outcome o.Unfit s f = None

-- what an operation gives is pushed
abbrev pub settled : Outcome → State → Next
settled outcome s = with_outcome outcome s (λ value s. Some (push_value value s))
