-- Places, initialization and calls in cores that are the same.
use Rattle.std.proofs.Common.{◌≡◌, refl, ap, ◌∙◌, ℕ, Bool, true, false, cond, List, [], ◌∷◌, ◌++◌, length, Option, Some, None}
use Rattle.std.specs.Prelude.{slice_get, ℤ}
use Rattle.std.specs.Option.{option_and_then}
use Rattle.jr_base.specs.declared.ids.DeclId.{DeclId}
use Rattle.jr_base.specs.declared.ids.TypeId.{TypeId}
use Rattle.jr_base.specs.Mirror as t
use Rattle.jr_core.specs.declared.bodies.Class.{Class}
use Rattle.jr_core.specs.declared.operators.BinaryOp.{BinaryOp}
use Rattle.jr_core.specs.Mirror as m
use Rattle.jr_core.specs.Mirror.{Code, Core, Body}
use Rattle.jr_machine_defs.specs.declared.value.Value.{Value}
use Rattle.jr_machine_defs.specs.declared.value.Value.TheVariants as v
use Rattle.jr_machine_defs.specs.declared.heap.Cell.{Cell}
use Rattle.jr_machine_defs.specs.declared.heap.Cell.TheVariants as cell
use Rattle.jr_machine_defs.specs.declared.state.Purpose.TheVariants as purpose
use Rattle.jr_machine_defs.specs.declared.state.State.{State}
use Rattle.jr_machine_defs.specs.declared.work.Work.{Work}
use Rattle.jr_machine_defs.specs.Classes.{class_in, body_in, class_of_object}
use Rattle.jr_machine_defs.specs.Places.{place_in, fits_item, fitting, place_of, item_place, placed, set_item, without_receiver, store_field, store, read_old_field, read_old}
use Rattle.jr_machine_defs.specs.Initialization.{body_work, members_work, class_work, begin_work, parent_work, begins, static_class, read_class, class_of_body, target_class, assigned_class, created_class, used_class}
use Rattle.jr_machine_defs.specs.Calls.{enters, runs, runs_any, dispatches, calls_on, calls, constructs}
use Rattle.jr_machine_defs.specs.States.{with_one, with_two, add_work}
use Rattle.jr_machine_laws.specs.SameCore.{AlikeClasses, SameCore}
use Rattle.jr_machine_laws.proofs.SameClasses.{found_in_same, is_instance_same}

parent_work_of : (begun : List TypeId) (x y : Option Class) → AlikeClasses x y → parent_work begun x ≡ parent_work begun y
parent_work_of begun None None h = refl
parent_work_of begun None (Some d) h = absurd h
parent_work_of begun (Some c) None h = absurd h
parent_work_of begun (Some c) (Some d) h = ap (begin_work begun) h.parent

-- the state in which the initialization of a class begins
abbrev begun_with : List Work → TypeId → State → State
begun_with work class s = record s {
  begun = s.begun ++ class ∷ [];
  callers = s.frame ∷ s.callers;
  frame = record { purpose = purpose.Initializer class; class = class; this = v.Null; locals = []; work = work; values = [] };
}

module _ (a b : Core) (same : SameCore a b) where
  -- ---- components of arrays and targets

  fits_item_same : (heap : List Cell) (item : t.Ty) (value : Value) → fits_item a heap item value ≡ fits_item b heap item value
  fits_item_same heap item (v.Ref place) = is_instance_same a b same heap (v.Ref place) item
  fits_item_same heap item (v.Text units) = is_instance_same a b same heap (v.Text units) item
  fits_item_same heap item value = refl

  place_of_same : (heap : List Cell) (item : t.Ty) (any : Option ℕ) (value : Value) → place_of a heap item any value ≡ place_of b heap item any value
  place_of_same heap item None value = refl
  place_of_same heap item (Some i) value = ap (λ fits. fitting fits i) (fits_item_same heap item value)

  item_place_same : (heap : List Cell) (any : Option Cell) (index : ℤ) (value : Value) → item_place a heap any index value ≡ item_place b heap any index value
  item_place_same heap (Some (cell.Array item items)) index value = place_of_same heap item (place_in (length items) index) value
  item_place_same heap (Some (cell.Object class outer fields)) index value = refl
  item_place_same heap (Some (cell.Text units)) index value = refl
  item_place_same heap None index value = refl

  set_item_same : (array index value outcome : Value) (s : State) → set_item a array index value outcome s ≡ set_item b array index value outcome s
  set_item_same v.Null (v.Int index) value outcome s = refl
  set_item_same (v.Ref array) (v.Int index) value outcome s = ap (λ place. placed place array value outcome s) (item_place_same s.heap (slice_get s.heap array) index value)
  set_item_same array index value outcome s = refl

  pub store_same : (target : Code) (value outcome : Value) (s : State) → store a target value outcome s ≡ store b target value outcome s
  store_same (m.Var local) value outcome s = refl
  store_same (m.FieldAt on field) value outcome s = ap (λ any. store_field any on field value outcome s) (same.bodies field)
  store_same (m.Index array at) value outcome s = λ i. with_two s.frame.values s (λ array index s. set_item_same array index value outcome s i)
  store_same target value outcome s = refl

  pub read_old_same : (target : Code) (s : State) → read_old a target s ≡ read_old b target s
  read_old_same (m.FieldAt on field) s = ap (λ any. read_old_field any field s) (same.bodies field)
  read_old_same (m.Index array at) s = refl
  read_old_same target s = refl

  -- ---- initialization

  members_work_same : (is_static : Bool) (all : List DeclId) → members_work a is_static all ≡ members_work b is_static all
  members_work_same is_static [] = refl
  members_work_same is_static (d ∷ all) = λ i. body_work is_static (same.bodies d i) ++ members_work_same is_static all i

  class_work_of : (is_static : Bool) (x y : Option Class) → AlikeClasses x y → class_work a is_static x ≡ class_work b is_static y
  class_work_of is_static None None h = refl
  class_work_of is_static None (Some d) h = absurd h
  class_work_of is_static (Some c) None h = absurd h
  class_work_of is_static (Some c) (Some d) h = ap (members_work a is_static) h.members ∙ members_work_same is_static d.members

  class_work_same : (is_static : Bool) (class : TypeId) → class_work a is_static (class_in a class) ≡ class_work b is_static (class_in b class)
  class_work_same is_static class = class_work_of is_static (class_in a class) (class_in b class) (same.classes class)

  pub begins_same : (class : TypeId) (s : State) → begins a class s ≡ begins b class s
  begins_same class s = λ i. begun_with (parent_work_of s.begun (class_in a class) (class_in b class) (same.classes class) i ++ class_work_same true class i) class s

  pub target_class_same : (target : Code) → target_class a target ≡ target_class b target
  target_class_same (m.FieldAt on field) = ap static_class (same.bodies field)
  target_class_same target = refl

  assigned_class_same : (target : Code) (op : Option BinaryOp) → assigned_class a target op ≡ assigned_class b target op
  assigned_class_same target None = target_class_same target
  assigned_class_same target (Some op) = refl

  pub created_class_same : (code : Code) → created_class a code ≡ created_class b code
  created_class_same (m.New outer ctor args) = ap class_of_body (same.bodies ctor)
  created_class_same code = refl

  pub used_class_same : (code : Code) → used_class a code ≡ used_class b code
  used_class_same (m.FieldAt on field) = ap read_class (same.bodies field)
  used_class_same (m.Call receiver is_super method args) = ap static_class (same.bodies method)
  used_class_same (m.Assign target op value) = assigned_class_same target op
  used_class_same code = refl

  -- ---- calls

  dispatches_same : (any : Option TypeId) (method : DeclId) (receiver : Value) (args : List Value) (s : State)
      → dispatches a any method receiver args s ≡ dispatches b any method receiver args s
  dispatches_same None method receiver args s = refl
  dispatches_same (Some class) method receiver args s = λ i. runs_any (option_and_then (λ d. same.bodies d i) (found_in_same a b same class method i)) receiver args s

  pub calls_on_same : (method : DeclId) (receiver : Value) (args : List Value) (s : State) → calls_on a method receiver args s ≡ calls_on b method receiver args s
  calls_on_same method v.Null args s = refl
  calls_on_same method receiver args s = dispatches_same (class_of_object s.heap receiver) method receiver args s

  calls_of : (any : Option Body) (receiver : m.AnyCode) (is_super : Bool) (args : List Value) (s : State) → calls a any receiver is_super args s ≡ calls b any receiver is_super args s
  calls_of None receiver is_super args s = refl
  calls_of (Some body) receiver is_super args s = λ i.
      cond body.is_static (without_receiver receiver s (runs body v.Null args))
      (cond is_super (runs body s.frame.this args s) (with_one s.frame.values s (λ object s. calls_on_same body.decl object args s i)))

  pub calls_same : (method : DeclId) (receiver : m.AnyCode) (is_super : Bool) (args : List Value) (s : State)
      → calls a (body_in a method) receiver is_super args s ≡ calls b (body_in b method) receiver is_super args s
  calls_same method receiver is_super args s =
      ap (λ any. calls a any receiver is_super args s) (same.bodies method) ∙ calls_of (body_in b method) receiver is_super args s

  constructs_of : (any : Option Body) (is_super : Bool) (args : List Value) (s : State) → constructs a any is_super args s ≡ constructs b any is_super args s
  constructs_of None is_super args s = refl
  constructs_of (Some body) is_super args s = λ i.
      Some (enters body purpose.Constructor s.frame.this args (cond is_super (add_work (class_work_same false s.frame.class i) s) s))

  pub constructs_same : (ctor : DeclId) (is_super : Bool) (args : List Value) (s : State)
      → constructs a (body_in a ctor) is_super args s ≡ constructs b (body_in b ctor) is_super args s
  constructs_same ctor is_super args s =
      ap (λ any. constructs a any is_super args s) (same.bodies ctor) ∙ constructs_of (body_in b ctor) is_super args s
