-- Fields and components of arrays: the checks, reading and writing (JLS 15.11, 15.13, 15.26).
use Rattle.std.specs.Prelude.{ℕ, ◌<◌, Bool, true, false, if◌then◌else◌, nat_lt, List, [], ◌∷◌, length, Option, Some, None, unwrap_or, slice_get, slice_set, ℤ, pos, negsuc}
use Rattle.std.specs.Option.{option_and_then}
use Rattle.jr_base.specs.declared.ids.DeclId.{DeclId}
use Rattle.jr_base.specs.declared.ids.TypeId.{TypeId}
use Rattle.jr_base.specs.declared.constant.Const.{Const}
use Rattle.jr_base.specs.Mirror as t
use Rattle.jr_core.specs.Mirror as m
use Rattle.jr_core.specs.Mirror.{Code, Core, Body}
use Rattle.jr_machine_defs.specs.declared.value.Value.{Value}
use Rattle.jr_machine_defs.specs.declared.value.Value.TheVariants as v
use Rattle.jr_machine_defs.specs.declared.slots.Slot.{Slot}
use Rattle.jr_machine_defs.specs.declared.heap.Cell.{Cell}
use Rattle.jr_machine_defs.specs.declared.heap.Cell.TheVariants as cell
use Rattle.jr_machine_defs.specs.declared.outcome.Fault.TheVariants as fault
use Rattle.jr_machine_defs.specs.declared.outcome.Outcome.{Outcome}
use Rattle.jr_machine_defs.specs.declared.outcome.Outcome.TheVariants as o
use Rattle.jr_machine_defs.specs.declared.outcome.Placed.{Placed}
use Rattle.jr_machine_defs.specs.declared.outcome.Placed.TheVariants as pl
use Rattle.jr_machine_defs.specs.declared.state.State.{State}
use Rattle.jr_machine_defs.specs.Values.{value_of, assigned, default_of}
use Rattle.jr_machine_defs.specs.Classes.{body_in, is_instance}
use Rattle.jr_machine_defs.specs.Parts.{literal}
use Rattle.jr_machine_defs.specs.Strings.{int_of_count}
use Rattle.jr_machine_defs.specs.States.{Next, with_one, with_two, with_outcome, settled, with_heap, push_value, raises, set_local}

-- ---- fields

abbrev pub static_value : Body → List Slot → DeclId → Value
static_value b statics field = unwrap_or (value_of statics field) (default_of b.ty)

abbrev pub field_of_cell : Body → DeclId → Option Cell → Outcome
field_of_cell b field (Some (cell.Object class outer fields)) = o.Gives (unwrap_or (value_of fields field) (default_of b.ty))
field_of_cell b field (Some (cell.Array item items)) = o.Unfit
field_of_cell b field (Some (cell.Text units)) = o.Unfit
field_of_cell b field None = o.Unfit

-- the value of a field of what a value refers to; null is checked
abbrev pub field_of : Body → DeclId → List Cell → Value → Outcome
field_of b field heap v.Null = o.Throws fault.NullPointer
field_of b field heap (v.Ref place) = field_of_cell b field (slice_get heap place)
field_of b field heap object = o.Unfit

abbrev pub with_field_set : DeclId → Value → Option Cell → Option Cell
with_field_set field value (Some (cell.Object class outer fields)) = Some (cell.Object class outer (assigned fields field value))
with_field_set field value (Some (cell.Array item items)) = None
with_field_set field value (Some (cell.Text units)) = None
with_field_set field value None = None

-- the heap with this cell at this place, and a value pushed
abbrev pub stored : ℕ → Value → State → Option Cell → Next
stored at outcome s None = None
stored at outcome s (Some c) = Some (push_value outcome (with_heap (slice_set s.heap at c) s))

abbrev pub set_field : DeclId → Value → Value → Value → State → Next
set_field field value outcome v.Null s = Some (raises fault.NullPointer s)
set_field field value outcome (v.Ref place) s = stored place outcome s (with_field_set field value (slice_get s.heap place))
set_field field value outcome object s = None

-- ---- components

-- the place of an index in an array of this length, if it is in bounds
abbrev pub place_in : ℕ → ℤ → Option ℕ
place_in size (pos i) = if nat_lt i size then Some i else None
place_in size (negsuc i) = None

abbrev pub given_any : Option Value → Outcome
given_any None = o.Unfit
given_any (Some value) = o.Gives value

abbrev pub item_at : List Value → Option ℕ → Outcome
item_at items None = o.Throws fault.ArrayIndex
item_at items (Some i) = given_any (slice_get items i)

abbrev pub item_of_cell : Option Cell → ℤ → Outcome
item_of_cell (Some (cell.Array item items)) index = item_at items (place_in (length items) index)
item_of_cell (Some (cell.Object class outer fields)) index = o.Unfit
item_of_cell (Some (cell.Text units)) index = o.Unfit
item_of_cell None index = o.Unfit

-- the value of a component; null and the bounds are checked
abbrev pub item_of : List Cell → Value → Value → Outcome
item_of heap v.Null (v.Int index) = o.Throws fault.NullPointer
item_of heap (v.Ref place) (v.Int index) = item_of_cell (slice_get heap place) index
item_of heap array index = o.Unfit

-- the value may stand in an array of such components (JLS 10.10)
abbrev pub fits_item : Core → List Cell → t.Ty → Value → Bool
fits_item core heap item (v.Ref place) = is_instance core heap (v.Ref place) item
fits_item core heap item (v.Text units) = is_instance core heap (v.Text units) item
fits_item core heap item value = true

abbrev pub fitting : Bool → ℕ → Placed
fitting true i = pl.At i
fitting false i = pl.Throws fault.ArrayStore

abbrev pub place_of : Core → List Cell → t.Ty → Option ℕ → Value → Placed
place_of core heap item None value = pl.Throws fault.ArrayIndex
place_of core heap item (Some i) value = fitting (fits_item core heap item value) i

-- where the value goes in an array; the bounds and the store are checked (JLS 15.26.1)
abbrev pub item_place : Core → List Cell → Option Cell → ℤ → Value → Placed
item_place core heap (Some (cell.Array item items)) index value = place_of core heap item (place_in (length items) index) value
item_place core heap (Some (cell.Object class outer fields)) index value = pl.Unfit
item_place core heap (Some (cell.Text units)) index value = pl.Unfit
item_place core heap None index value = pl.Unfit

abbrev pub with_item_set : ℕ → Value → Option Cell → Option Cell
with_item_set i value (Some (cell.Array item items)) = Some (cell.Array item (slice_set items i value))
with_item_set i value (Some (cell.Object class outer fields)) = None
with_item_set i value (Some (cell.Text units)) = None
with_item_set i value None = None

abbrev pub placed : Placed → ℕ → Value → Value → State → Next
placed (pl.At i) array value outcome s = stored array outcome s (with_item_set i value (slice_get s.heap array))
placed (pl.Throws fault) array value outcome s = Some (raises fault s)
placed pl.Unfit array value outcome s = None

abbrev pub set_item : Core → Value → Value → Value → Value → State → Next
set_item core v.Null (v.Int index) value outcome s = Some (raises fault.NullPointer s)
set_item core (v.Ref array) (v.Int index) value outcome s = placed (item_place core s.heap (slice_get s.heap array) index value) array value outcome s
set_item core array index value outcome s = None

-- ---- targets

-- without the receiver of a static member, which is evaluated and not used (JLS 15.11.1)
abbrev pub without_receiver : m.AnyCode → State → (State → Next) → Next
without_receiver m.no_code s f = f s
without_receiver (m.a_code on) s f = with_one s.frame.values s (λ receiver s. f s)

abbrev pub set_static : DeclId → Value → Value → State → Next
set_static field value outcome s = Some (push_value outcome (record s { statics = assigned s.statics field value }))

abbrev pub store_field : Option Body → m.AnyCode → DeclId → Value → Value → State → Next
store_field None on field value outcome s = None
store_field (Some b) on field value outcome s =
    if b.is_static then without_receiver on s (set_static field value outcome) else with_one s.frame.values s (set_field field value outcome)

-- the value is stored in the target, whose own operands are taken off, and what the assignment gives is pushed (JLS 15.26)
abbrev pub store : Core → Code → Value → Value → State → Next
store core (m.Var local) value outcome s = Some (push_value outcome (set_local local value s))
store core (m.FieldAt on field) value outcome s = store_field (body_in core field) on field value outcome s
store core (m.Index array at) value outcome s = with_two s.frame.values s (λ array index s. set_item core array index value outcome s)
store core target value outcome s = None

-- ---- reading

-- what a read of a field gives: of a constant variable always its value, and of another one the value that is stored (JLS 4.12.4, 13.1)
abbrev pub value_read : Option Const → Value → Value
value_read None stored = stored
value_read (Some value) stored = literal (Some value)

-- a field is read, of the object on top if it is no static one; null is checked, also where the field is a constant variable (JLS 15.11.1)
abbrev pub read_field : Option Body → m.AnyCode → DeclId → State → Next
read_field None on field s = None
read_field (Some b) on field s =
    if b.is_static then without_receiver on s (λ s. Some (push_value (value_read b.constant (static_value b s.statics field)) s))
    else with_one s.frame.values s (λ object s. with_outcome (field_of b field s.heap object) s (λ stored s. Some (push_value (value_read b.constant stored) s)))

abbrev pub read_item : State → Next
read_item s = with_two s.frame.values s (λ array index s. settled (item_of s.heap array index) s)

-- the old value of a target is pushed onto the target's own operands, after the checks (JLS 15.26.2)
abbrev pub read_old_field : Option Body → DeclId → State → Next
read_old_field None field s = None
read_old_field (Some b) field s =
    if b.is_static then Some (push_value (static_value b s.statics field) s)
    else with_one s.frame.values s (λ object s. with_outcome (field_of b field s.heap object) s (λ value s. Some (push_value value (push_value object s))))

abbrev pub read_old_item : State → Next
read_old_item s =
    with_two s.frame.values s (λ array index s. with_outcome (item_of s.heap array index) s (λ value s. Some (push_value value (push_value index (push_value array s)))))

abbrev pub read_old : Core → Code → State → Next
read_old core (m.FieldAt on field) s = read_old_field (body_in core field) field s
read_old core (m.Index array at) s = read_old_item s
read_old core target s = None

-- the length of an array (JLS 10.7)
abbrev pub length_of_cell : Option Cell → Outcome
length_of_cell (Some (cell.Array item items)) = o.Gives (v.Int (int_of_count (length items)))
length_of_cell (Some (cell.Object class outer fields)) = o.Unfit
length_of_cell (Some (cell.Text units)) = o.Unfit
length_of_cell None = o.Unfit

abbrev pub length_of : List Cell → Value → Outcome
length_of heap v.Null = o.Throws fault.NullPointer
length_of heap (v.Ref place) = length_of_cell (slice_get heap place)
length_of heap array = o.Unfit
