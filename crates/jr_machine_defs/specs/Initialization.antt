-- Initialization of classes and of objects (JLS 12.4, 12.5).
use Rattle.std.specs.Prelude.{Bool, true, false, not, ◌==◌, if◌then◌else◌, List, [], ◌∷◌, ◌++◌, Option, Some, None}
use Rattle.std.specs.Option.{is_some}
use Rattle.jr_base.specs.declared.ids.DeclId.{DeclId}
use Rattle.jr_base.specs.declared.ids.TypeId.{TypeId}
use Rattle.jr_core.specs.declared.bodies.Class.{Class}
use Rattle.jr_core.specs.declared.operators.BinaryOp.{BinaryOp}
use Rattle.jr_core.specs.Mirror as m
use Rattle.jr_core.specs.Mirror.{Code, Core, Body}
use Rattle.jr_machine_defs.specs.declared.value.Value.TheVariants as v
use Rattle.jr_machine_defs.specs.declared.work.Work.{Work}
use Rattle.jr_machine_defs.specs.declared.work.Work.TheVariants as w
use Rattle.jr_machine_defs.specs.declared.state.Purpose.TheVariants as purpose
use Rattle.jr_machine_defs.specs.declared.state.State.{State}
use Rattle.jr_machine_defs.specs.Classes.{class_in, body_in, is_among}
use Rattle.jr_machine_defs.specs.Parts.{evals}

abbrev pub same_bool : Bool → Bool → Bool
same_bool true b = b
same_bool false b = not b

abbrev pub body_work : Bool → Option Body → List Work
body_work is_static None = []
body_work is_static (Some b) = if same_bool b.is_static is_static then evals b.code else []

-- the initializers of fields and the initializers among these members, static ones or others, in order of the text
abbrev pub members_work : Core → Bool → List DeclId → List Work
members_work core is_static [] = []
members_work core is_static (d ∷ all) = body_work is_static (body_in core d) ++ members_work core is_static all

abbrev pub class_work : Core → Bool → Option Class → List Work
class_work core is_static None = []
class_work core is_static (Some c) = members_work core is_static c.members

abbrev pub begin_work : List TypeId → Option TypeId → List Work
begin_work begun None = []
begin_work begun (Some class) = if is_among begun class then [] else w.Begin class ∷ []

abbrev pub parent_work : List TypeId → Option Class → List Work
parent_work begun None = []
parent_work begun (Some c) = begin_work begun c.parent

-- the initialization of a class begins: its superclass first, then its static initializers (JLS 12.4.2)
abbrev pub begins : Core → TypeId → State → State
begins core class s = record s {
  begun = s.begun ++ class ∷ [];
  callers = s.frame ∷ s.callers;
  frame = record {
    purpose = purpose.Initializer class;
    class = class;
    this = v.Null;
    locals = [];
    work = parent_work s.begun (class_in core class) ++ class_work core true (class_in core class);
    values = [];
  };
}

-- the class of a static member
abbrev pub static_class : Option Body → Option TypeId
static_class None = None
static_class (Some b) = if b.is_static then Some b.class else None

-- the class of a static field that is read: reading a constant variable initializes no class (JLS 12.4.1, 13.1)
abbrev pub read_class : Option Body → Option TypeId
read_class None = None
read_class (Some b) = if is_some b.constant then None else static_class (Some b)

abbrev pub class_of_body : Option Body → Option TypeId
class_of_body None = None
class_of_body (Some b) = Some b.class

abbrev pub target_class : Core → Code → Option TypeId
target_class core (m.FieldAt on field) = static_class (body_in core field)
target_class core target = None

abbrev pub assigned_class : Core → Code → Option BinaryOp → Option TypeId
assigned_class core target None = target_class core target
assigned_class core target (Some op) = None

-- the class that this code initializes before its parts, if it has not begun: that of a creation (JLS 12.4.1, 15.9.4)
abbrev pub created_class : Core → Code → Option TypeId
created_class core (m.New outer ctor args) = class_of_body (body_in core ctor)
created_class core code = None

-- the class that the finishing item of this code initializes, if it has not begun: by a static call, or an access to a static field (JLS 12.4.1)
abbrev pub used_class : Core → Code → Option TypeId
used_class core (m.FieldAt on field) = read_class (body_in core field)
used_class core (m.Call receiver is_super method args) = static_class (body_in core method)
used_class core (m.Assign target op value) = assigned_class core target op
used_class core code = None

-- such a class, where its initialization has not begun
abbrev pub first_use : List TypeId → Option TypeId → Option TypeId
first_use begun None = None
first_use begun (Some class) = if is_among begun class then None else Some class
