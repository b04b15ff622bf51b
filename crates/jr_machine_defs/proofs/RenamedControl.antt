-- `switch`, catches, labels and enclosing instances under a renaming.
use Rattle.std.proofs.Common.{◌≡◌, refl, ap, ◌∙◌, ℕ, zero, suc, List, ◌∷◌, map, length, Option, Some, None}
use Rattle.std.specs.Option.{option_map}
use Rattle.std.specs.Prelude.{slice_get, ℤ}
use Rattle.std.proofs.lemmas.Option.{slice_get-map}
use Rattle.jr_base.specs.declared.ids.DeclId.{DeclId}
use Rattle.jr_base.specs.declared.ids.TypeId.{TypeId}
use Rattle.jr_core.specs.declared.bodies.Class.{Class}
use Rattle.jr_core.specs.Mirror as m
use Rattle.jr_core.specs.Mirror.{Code, Core}
use Rattle.jr_machine_defs.specs.declared.value.Value.{Value}
use Rattle.jr_machine_defs.specs.declared.value.Value.TheVariants as v
use Rattle.jr_machine_defs.specs.declared.heap.Cell.{Cell}
use Rattle.jr_machine_defs.specs.declared.heap.Cell.TheVariants as cell
use Rattle.jr_machine_defs.specs.declared.work.Work.{Work}
use Rattle.jr_machine_defs.specs.declared.work.Work.TheVariants as w
use Rattle.jr_machine_defs.specs.Classes.{class_in}
use Rattle.jr_machine_defs.specs.Control.{has_case, has_default, group_work, groups_work, cases_from, default_from, or_default, chosen, relabeled, catch_for, outer_of_cell, outer_of, outer_class, instance_at, instance_of}
use Rattle.jr_machine_defs.specs.Renamed.{IsRenaming, renamed_type, renamed_code, renamed_group, renamed_groups, renamed_catch, renamed_catches, renamed_class, renamed_core, renamed_cell, renamed_work}
use Rattle.jr_machine_defs.proofs.RenamedValues.{cond_same, image_on, cond_image, same_type_renamed}
use Rattle.jr_machine_defs.proofs.RenamedParts.{work_joined, evals_renamed}
use Rattle.jr_machine_defs.proofs.RenamedClasses.{class_in_renamed, classes_count, is_below_renamed}

module _ (f : DeclId → DeclId) (p : IsRenaming f) where
  -- ---- switch

  group_work_renamed : (g : m.Group) → group_work (renamed_group f g) ≡ map (renamed_work f) (group_work g)
  group_work_renamed (m.GroupOf labels stmts) = evals_renamed f stmts

  groups_work_renamed : (all : m.Groups) → groups_work (renamed_groups f all) ≡ map (renamed_work f) (groups_work all)
  groups_work_renamed m.no_groups = refl
  groups_work_renamed (m.more_groups g all) = work_joined f (group_work g) (groups_work all) (group_work_renamed g) (groups_work_renamed all)

  cases_from_renamed : (value : ℤ) (all : m.Groups) → cases_from value (renamed_groups f all) ≡ renamed_groups f (cases_from value all)
  cases_from_renamed value m.no_groups = refl
  cases_from_renamed value (m.more_groups (m.GroupOf labels stmts) all) =
      image_on (renamed_groups f) (has_case value labels) (m.more_groups (m.GroupOf labels stmts) all) (cases_from value all) refl (cases_from_renamed value all)

  default_from_renamed : (all : m.Groups) → default_from (renamed_groups f all) ≡ renamed_groups f (default_from all)
  default_from_renamed m.no_groups = refl
  default_from_renamed (m.more_groups (m.GroupOf labels stmts) all) =
      image_on (renamed_groups f) (has_default labels) (m.more_groups (m.GroupOf labels stmts) all) (default_from all) refl (default_from_renamed all)

  or_default_renamed : (some all : m.Groups) → or_default (renamed_groups f some) (renamed_groups f all) ≡ renamed_groups f (or_default some all)
  or_default_renamed m.no_groups all = default_from_renamed all
  or_default_renamed (m.more_groups g rest) all = refl

  chosen_renamed : (value : ℤ) (all : m.Groups) → chosen value (renamed_groups f all) ≡ renamed_groups f (chosen value all)
  chosen_renamed value all = ap (λ g. or_default g (renamed_groups f all)) (cases_from_renamed value all) ∙ or_default_renamed (cases_from value all) all

  pub chosen_work_renamed : (value : ℤ) (all : m.Groups) → groups_work (chosen value (renamed_groups f all)) ≡ map (renamed_work f) (groups_work (chosen value all))
  chosen_work_renamed value all = ap groups_work (chosen_renamed value all) ∙ groups_work_renamed (chosen value all)

  -- ---- labels and catches

  pub relabeled_renamed : (code : Code) (rest : List Work) → relabeled (renamed_code f code) (map (renamed_work f) rest) ≡ map (renamed_work f) (relabeled code rest)
  relabeled_renamed (m.Labeled label body) rest = relabeled_renamed body (w.Finish (m.Labeled label body) ∷ rest)
  relabeled_renamed code rest = refl

  pub catch_for_renamed : (core : Core) (class : TypeId) (all : m.Catches)
      → catch_for (renamed_core f core) (renamed_type f class) (renamed_catches f all) ≡ option_map (renamed_catch f) (catch_for core class all)
  catch_for_renamed core class m.no_catches = refl
  catch_for_renamed core class (m.more_catches (m.CatchOf k param body) all) =
      cond_image (option_map (renamed_catch f)) (Some (m.CatchOf k param body)) (catch_for core class all) (is_below_renamed f p core class k) refl (catch_for_renamed core class all)

  -- ---- enclosing instances

  outer_of_cell_renamed : (any : Option Cell) → outer_of_cell (option_map (renamed_cell f) any) ≡ outer_of_cell any
  outer_of_cell_renamed None = refl
  outer_of_cell_renamed (Some (cell.Object class outer fields)) = refl
  outer_of_cell_renamed (Some (cell.Array item items)) = refl
  outer_of_cell_renamed (Some (cell.Text units)) = refl

  outer_of_renamed : (heap : List Cell) (value : Value) → outer_of (map (renamed_cell f) heap) value ≡ outer_of heap value
  outer_of_renamed heap (v.Ref at) = ap outer_of_cell (slice_get-map (renamed_cell f) heap at) ∙ outer_of_cell_renamed (slice_get heap at)
  outer_of_renamed heap value = refl

  outer_class_renamed : (any : Option Class) → outer_class (option_map (renamed_class f) any) ≡ option_map (renamed_type f) (outer_class any)
  outer_class_renamed None = refl
  outer_class_renamed (Some c) = refl

  instance_at_renamed : (core : Core) (heap : List Cell) (levels : ℕ) (class : TypeId) (current : Option TypeId) (object : Option Value)
      → instance_at (renamed_core f core) (map (renamed_cell f) heap) levels (renamed_type f class) (option_map (renamed_type f) current) object ≡ instance_at core heap levels class current object
  instance_at_renamed core heap zero class None object = refl
  instance_at_renamed core heap zero class (Some current) None = refl
  instance_at_renamed core heap zero class (Some current) (Some object) = refl
  instance_at_renamed core heap (suc levels) class None object = refl
  instance_at_renamed core heap (suc levels) class (Some current) None = refl
  instance_at_renamed core heap (suc levels) class (Some current) (Some object) =
      cond_same (same_type_renamed f p current class) refl
      (ap (λ c. instance_at (renamed_core f core) (map (renamed_cell f) heap) levels (renamed_type f class) c (outer_of (map (renamed_cell f) heap) object))
      (ap outer_class (class_in_renamed f p core current) ∙ outer_class_renamed (class_in core current))
      ∙ (ap (instance_at (renamed_core f core) (map (renamed_cell f) heap) levels (renamed_type f class) (option_map (renamed_type f) (outer_class (class_in core current)))) (outer_of_renamed heap object)
      ∙ instance_at_renamed core heap levels class (outer_class (class_in core current)) (outer_of heap object)))

  pub instance_of_renamed : (core : Core) (heap : List Cell) (class current : TypeId) (object : Value)
      → instance_of (renamed_core f core) (map (renamed_cell f) heap) (renamed_type f class) (renamed_type f current) object ≡ instance_of core heap class current object
  instance_of_renamed core heap class current object =
      ap (λ n. instance_at (renamed_core f core) (map (renamed_cell f) heap) n (renamed_type f class) (Some (renamed_type f current)) (Some object)) (classes_count f p core)
      ∙ instance_at_renamed core heap (length core.classes) class (Some current) (Some object)
