-- `switch`, the locals of catches, labels, and enclosing instances (JLS 14.7, 14.11, 14.20, 15.8.4).
use Rattle.std.specs.Prelude.{ℕ, zero, suc, Bool, true, false, ◌||◌, if◌then◌else◌, List, [], ◌∷◌, ◌++◌, length, Option, Some, None, slice_get, ℤ}
use Rattle.std.specs.Ordering.{int_eq}
use Rattle.jr_base.specs.declared.ids.DeclId.{DeclId}
use Rattle.jr_base.specs.declared.ids.TypeId.{TypeId}
use Rattle.jr_base.specs.Mirror as t
use Rattle.jr_core.specs.declared.bodies.Class.{Class}
use Rattle.jr_core.specs.declared.code.SwitchLabel.{SwitchLabel}
use Rattle.jr_core.specs.declared.code.SwitchLabel.TheVariants as label
use Rattle.jr_core.specs.Mirror as m
use Rattle.jr_core.specs.Mirror.{Code, Codes, Core}
use Rattle.jr_machine_defs.specs.declared.value.Value.{Value}
use Rattle.jr_machine_defs.specs.declared.value.Value.TheVariants as v
use Rattle.jr_machine_defs.specs.declared.heap.Cell.{Cell}
use Rattle.jr_machine_defs.specs.declared.heap.Cell.TheVariants as cell
use Rattle.jr_machine_defs.specs.declared.work.Work.{Work}
use Rattle.jr_machine_defs.specs.declared.work.Work.TheVariants as w
use Rattle.jr_machine_defs.specs.declared.number.Number.{Number}
use Rattle.jr_machine_defs.specs.declared.number.Number.TheVariants as n
use Rattle.jr_machine_defs.specs.Values.{same_decl, same_type}
use Rattle.jr_machine_defs.specs.Classes.{class_in, is_below, class_of_object}
use Rattle.jr_machine_defs.specs.Parts.{evals}

-- ---- switch

abbrev pub is_case : ℤ → SwitchLabel → Bool
is_case value (label.Case z) = int_eq z value
is_case value label.Default = false

abbrev pub is_default : SwitchLabel → Bool
is_default (label.Case z) = false
is_default label.Default = true

abbrev pub has_case : ℤ → List SwitchLabel → Bool
has_case value [] = false
has_case value (l ∷ all) = is_case value l || has_case value all

abbrev pub has_default : List SwitchLabel → Bool
has_default [] = false
has_default (l ∷ all) = is_default l || has_default all

abbrev pub group_work : m.Group → List Work
group_work (m.GroupOf labels stmts) = evals stmts

-- the statements of these groups, one group after another
abbrev pub groups_work : m.Groups → List Work
groups_work m.no_groups = []
groups_work (m.more_groups group all) = group_work group ++ groups_work all

-- the groups from the first with this case on
abbrev pub cases_from : ℤ → m.Groups → m.Groups
cases_from value m.no_groups = m.no_groups
cases_from value (m.more_groups (m.GroupOf labels stmts) all) = if has_case value labels then m.more_groups (m.GroupOf labels stmts) all else cases_from value all

-- the groups from that with the default on
abbrev pub default_from : m.Groups → m.Groups
default_from m.no_groups = m.no_groups
default_from (m.more_groups (m.GroupOf labels stmts) all) = if has_default labels then m.more_groups (m.GroupOf labels stmts) all else default_from all

abbrev pub or_default : m.Groups → m.Groups → m.Groups
or_default m.no_groups all = default_from all
or_default (m.more_groups group rest) all = m.more_groups group rest

-- the groups that a switch goes on with (JLS 14.11)
abbrev pub chosen : ℤ → m.Groups → m.Groups
chosen value all = or_default (cases_from value all) all

-- ---- labels

-- the labels directly round a loop are put back, and then what follows its body (JLS 14.16)
abbrev pub relabeled : Code → List Work → List Work
relabeled (m.Labeled label body) rest = relabeled body (w.Finish (m.Labeled label body) ∷ rest)
relabeled loop rest = w.AfterBody loop ∷ rest

-- ---- catches

-- the first catch that takes an object of this class (JLS 11.3)
abbrev pub catch_for : Core → TypeId → m.Catches → Option m.Catch
catch_for core class m.no_catches = None
catch_for core class (m.more_catches (m.CatchOf k param body) all) = if is_below core class k then Some (m.CatchOf k param body) else catch_for core class all

-- ---- enclosing instances

abbrev pub outer_of_cell : Option Cell → Option Value
outer_of_cell (Some (cell.Object class outer fields)) = Some outer
outer_of_cell (Some (cell.Array item items)) = None
outer_of_cell (Some (cell.Text units)) = None
outer_of_cell None = None

abbrev pub outer_of : List Cell → Value → Option Value
outer_of heap (v.Ref at) = outer_of_cell (slice_get heap at)
outer_of heap value = None

abbrev pub outer_class : Option Class → Option TypeId
outer_class None = None
outer_class (Some c) = c.outer

-- the instance of the class, from that of the current class outwards; there are no more levels than classes (JLS 8.1.3, 15.8.4)
abbrev pub instance_at : Core → List Cell → ℕ → TypeId → Option TypeId → Option Value → Option Value
instance_at core heap levels class None object = None
instance_at core heap levels class (Some current) None = None
instance_at core heap zero class (Some current) (Some object) = None
instance_at core heap (suc levels) class (Some current) (Some object) =
    if same_type current class then Some object
    else instance_at core heap levels class (outer_class (class_in core current)) (outer_of heap object)

abbrev pub instance_of : Core → List Cell → TypeId → TypeId → Value → Option Value
instance_of core heap class current object = instance_at core heap (length core.classes) class (Some current) (Some object)
