-- Calls of methods and constructors, and creations (JLS 8.8.7, 15.9, 15.12).
use Rattle.std.specs.Prelude.{ℕ, ◌+◌, Bool, true, false, if◌then◌else◌, List, [], ◌∷◌, ◌++◌, length, Option, Some, None}
use Rattle.std.specs.Option.{option_and_then}
use Rattle.jr_base.specs.declared.ids.DeclId.{DeclId}
use Rattle.jr_base.specs.declared.ids.TypeId.{TypeId}
use Rattle.jr_core.specs.Mirror as m
use Rattle.jr_core.specs.Mirror.{Code, Codes, Core, Body}
use Rattle.jr_machine_defs.specs.declared.value.Value.{Value}
use Rattle.jr_machine_defs.specs.declared.value.Value.TheVariants as v
use Rattle.jr_machine_defs.specs.declared.slots.Slot.{Slot}
use Rattle.jr_machine_defs.specs.declared.heap.Cell.TheVariants as cell
use Rattle.jr_machine_defs.specs.declared.outcome.Fault.TheVariants as fault
use Rattle.jr_machine_defs.specs.declared.state.Purpose.{Purpose}
use Rattle.jr_machine_defs.specs.declared.state.Purpose.TheVariants as purpose
use Rattle.jr_machine_defs.specs.declared.state.State.{State}
use Rattle.jr_machine_defs.specs.Values.{slot_of}
use Rattle.jr_machine_defs.specs.Classes.{class_in, body_in, found_in, class_of_object}
use Rattle.jr_machine_defs.specs.Parts.{evals, codes_count}
use Rattle.jr_machine_defs.specs.Places.{without_receiver}
use Rattle.jr_machine_defs.specs.Initialization.{class_work}
use Rattle.jr_machine_defs.specs.Natives.{native_call}
use Rattle.jr_machine_defs.specs.States.{Next, with_one, with_some, add_work, add_cell, push_value, raises}

-- the parameters with the arguments as their values
abbrev pub slots_of : List DeclId → List Value → List Slot
slots_of [] args = []
slots_of (d ∷ params) [] = []
slots_of (d ∷ params) (a ∷ args) = slot_of d a ∷ slots_of params args

-- a frame for this body is put on
abbrev pub enters : Body → Purpose → Value → List Value → State → State
enters b kind this args s = record s {
  callers = s.frame ∷ s.callers;
  frame = record { purpose = kind; class = b.class; this = this; locals = slots_of b.params args; work = evals b.code; values = [] };
}

abbrev pub runs : Body → Value → List Value → State → Next
runs b this args s = if b.is_native then native_call b.decl this args s else Some (enters b purpose.Method this args s)

abbrev pub runs_any : Option Body → Value → List Value → State → Next
runs_any None this args s = None
runs_any (Some b) this args s = runs b this args s

-- the method that is found in the receiver's class is run (JLS 15.12.4.4)
abbrev pub dispatches : Core → Option TypeId → DeclId → Value → List Value → State → Next
dispatches core None method receiver args s = None
dispatches core (Some class) method receiver args s = runs_any (option_and_then (body_in core) (found_in core class method)) receiver args s

abbrev pub calls_on : Core → DeclId → Value → List Value → State → Next
calls_on core method v.Null args s = Some (raises fault.NullPointer s)
calls_on core method receiver args s = dispatches core (class_of_object s.heap receiver) method receiver args s

-- a call, with its arguments (JLS 15.12.4)
abbrev pub calls : Core → Option Body → m.AnyCode → Bool → List Value → State → Next
calls core None receiver is_super args s = None
calls core (Some b) receiver is_super args s =
    if b.is_static then without_receiver receiver s (runs b v.Null args)
    else if is_super then runs b s.frame.this args s
    else with_one s.frame.values s (λ object s. calls_on core b.decl object args s)

-- ---- creations

abbrev pub creates : Body → Value → List Value → State → Next
creates b outer args s =
    Some (enters b purpose.Constructor (v.Ref (length s.heap)) args (push_value (v.Ref (length s.heap)) (add_cell (cell.Object b.class outer []) s)))

-- a creation, with its arguments: a new object with default values, on which the constructor runs (JLS 12.5, 15.9.4)
abbrev pub creates_any : Option Body → m.AnyCode → List Value → State → Next
creates_any None outer args s = None
creates_any (Some b) m.no_code args s = creates b v.Null args s
creates_any (Some b) (m.a_code outer) args s = with_one s.frame.values s (λ object s. creates b object args s)

-- a call of a constructor of the same class, or of the superclass; the latter is followed by the initializers of this class (JLS 12.5)
abbrev pub constructs : Core → Option Body → Bool → List Value → State → Next
constructs core None is_super args s = None
constructs core (Some b) is_super args s =
    Some (enters b purpose.Constructor s.frame.this args (if is_super then add_work (class_work core false (class_in core s.frame.class)) s else s))
