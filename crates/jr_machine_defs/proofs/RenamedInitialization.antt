-- Initialization under a renaming.
use Rattle.std.proofs.Common.{◌≡◌, refl, sym, ap, ◌∙◌, Bool, true, List, [], ◌∷◌, ◌++◌, map, Option, Some, None}
use Rattle.std.specs.Option.{option_map, is_some}
use Rattle.std.proofs.lemmas.List.{map_push}
use Rattle.jr_base.specs.declared.ids.DeclId.{DeclId}
use Rattle.jr_base.specs.declared.ids.TypeId.{TypeId}
use Rattle.jr_core.specs.declared.bodies.Class.{Class}
use Rattle.jr_core.specs.declared.operators.BinaryOp.{BinaryOp}
use Rattle.jr_core.specs.Mirror as m
use Rattle.jr_core.specs.Mirror.{Code, Core, Body}
use Rattle.jr_machine_defs.specs.declared.value.Value.TheVariants as v
use Rattle.jr_machine_defs.specs.declared.work.Work.{Work}
use Rattle.jr_machine_defs.specs.declared.work.Work.TheVariants as w
use Rattle.jr_machine_defs.specs.declared.state.Purpose.TheVariants as purpose
use Rattle.jr_machine_defs.specs.declared.state.State.{State}
use Rattle.jr_machine_defs.specs.Classes.{class_in, body_in}
use Rattle.jr_machine_defs.specs.Parts.{evals}
use Rattle.jr_machine_defs.specs.Initialization.{same_bool, body_work, members_work, class_work, begin_work, parent_work, begins, static_class, read_class, class_of_body, target_class, assigned_class, created_class, used_class, first_use}
use Rattle.jr_machine_defs.specs.Renamed.{IsRenaming, renamed_type, renamed_code, renamed_class, renamed_body, renamed_core, renamed_work, renamed_state}
use Rattle.jr_machine_defs.proofs.RenamedValues.{image_on, cond_image}
use Rattle.jr_machine_defs.proofs.RenamedParts.{work_joined, evals_renamed}
use Rattle.jr_machine_defs.proofs.RenamedClasses.{class_in_renamed, body_in_renamed, is_among_renamed}

-- the state in which the initialization of a class begins
abbrev begun_with : List TypeId → List Work → TypeId → State → State
begun_with begun work class s = record s {
  begun = begun;
  callers = s.frame ∷ s.callers;
  frame = record { purpose = purpose.Initializer class; class = class; this = v.Null; locals = []; work = work; values = [] };
}

module _ (f : DeclId → DeclId) (p : IsRenaming f) where
  body_work_renamed : (is_static : Bool) (any : Option Body) → body_work is_static (option_map (renamed_body f) any) ≡ map (renamed_work f) (body_work is_static any)
  body_work_renamed is_static None = refl
  body_work_renamed is_static (Some b) = image_on (map (renamed_work f)) (same_bool b.is_static is_static) (evals b.code) [] (evals_renamed f b.code) refl

  members_work_renamed : (core : Core) (is_static : Bool) (all : List DeclId)
      → members_work (renamed_core f core) is_static (map f all) ≡ map (renamed_work f) (members_work core is_static all)
  members_work_renamed core is_static [] = refl
  members_work_renamed core is_static (d ∷ all) =
      work_joined f (body_work is_static (body_in core d)) (members_work core is_static all)
      (ap (body_work is_static) (body_in_renamed f p core d) ∙ body_work_renamed is_static (body_in core d)) (members_work_renamed core is_static all)

  class_work_of : (core : Core) (is_static : Bool) (any : Option Class)
      → class_work (renamed_core f core) is_static (option_map (renamed_class f) any) ≡ map (renamed_work f) (class_work core is_static any)
  class_work_of core is_static None = refl
  class_work_of core is_static (Some c) = members_work_renamed core is_static c.members

  pub class_work_renamed : (core : Core) (is_static : Bool) (class : TypeId)
      → class_work (renamed_core f core) is_static (class_in (renamed_core f core) (renamed_type f class)) ≡ map (renamed_work f) (class_work core is_static (class_in core class))
  class_work_renamed core is_static class =
      ap (class_work (renamed_core f core) is_static) (class_in_renamed f p core class) ∙ class_work_of core is_static (class_in core class)

  begin_work_renamed : (begun : List TypeId) (any : Option TypeId)
      → begin_work (map (renamed_type f) begun) (option_map (renamed_type f) any) ≡ map (renamed_work f) (begin_work begun any)
  begin_work_renamed begun None = refl
  begin_work_renamed begun (Some class) = cond_image (map (renamed_work f)) [] (w.Begin class ∷ []) (is_among_renamed f p begun class) refl refl

  parent_work_renamed : (begun : List TypeId) (any : Option Class)
      → parent_work (map (renamed_type f) begun) (option_map (renamed_class f) any) ≡ map (renamed_work f) (parent_work begun any)
  parent_work_renamed begun None = refl
  parent_work_renamed begun (Some c) = begin_work_renamed begun c.parent

  pub begins_renamed : (core : Core) (class : TypeId) (s : State) → begins (renamed_core f core) (renamed_type f class) (renamed_state f s) ≡ renamed_state f (begins core class s)
  begins_renamed core class s =
      ap (λ x. begun_with x (parent_work (map (renamed_type f) s.begun) (class_in (renamed_core f core) (renamed_type f class))
      ++ class_work (renamed_core f core) true (class_in (renamed_core f core) (renamed_type f class))) (renamed_type f class) (renamed_state f s))
      (sym (map_push (renamed_type f) s.begun class))
      ∙ ap (λ x. begun_with (map (renamed_type f) (s.begun ++ class ∷ [])) x (renamed_type f class) (renamed_state f s))
      (work_joined f (parent_work s.begun (class_in core class)) (class_work core true (class_in core class))
      (ap (parent_work (map (renamed_type f) s.begun)) (class_in_renamed f p core class) ∙ parent_work_renamed s.begun (class_in core class))
      (class_work_renamed core true class))

  -- ---- first uses

  static_class_renamed : (any : Option Body) → static_class (option_map (renamed_body f) any) ≡ option_map (renamed_type f) (static_class any)
  static_class_renamed None = refl
  static_class_renamed (Some b) = image_on (option_map (renamed_type f)) b.is_static (Some b.class) None refl refl

  read_class_renamed : (any : Option Body) → read_class (option_map (renamed_body f) any) ≡ option_map (renamed_type f) (read_class any)
  read_class_renamed None = refl
  read_class_renamed (Some b) = image_on (option_map (renamed_type f)) (is_some b.constant) None (static_class (Some b)) refl (static_class_renamed (Some b))

  class_of_body_renamed : (any : Option Body) → class_of_body (option_map (renamed_body f) any) ≡ option_map (renamed_type f) (class_of_body any)
  class_of_body_renamed None = refl
  class_of_body_renamed (Some b) = refl

  static_class_in : (core : Core) (d : DeclId) → static_class (body_in (renamed_core f core) (f d)) ≡ option_map (renamed_type f) (static_class (body_in core d))
  static_class_in core d = ap static_class (body_in_renamed f p core d) ∙ static_class_renamed (body_in core d)

  pub target_class_renamed : (core : Core) (target : Code) → target_class (renamed_core f core) (renamed_code f target) ≡ option_map (renamed_type f) (target_class core target)
  target_class_renamed core (m.FieldAt on field) = static_class_in core field
  target_class_renamed core target = refl

  assigned_class_renamed : (core : Core) (target : Code) (op : Option BinaryOp)
      → assigned_class (renamed_core f core) (renamed_code f target) op ≡ option_map (renamed_type f) (assigned_class core target op)
  assigned_class_renamed core target None = target_class_renamed core target
  assigned_class_renamed core target (Some op) = refl

  pub created_class_renamed : (core : Core) (code : Code) → created_class (renamed_core f core) (renamed_code f code) ≡ option_map (renamed_type f) (created_class core code)
  created_class_renamed core (m.New outer ctor args) = ap class_of_body (body_in_renamed f p core ctor) ∙ class_of_body_renamed (body_in core ctor)
  created_class_renamed core code = refl

  pub used_class_renamed : (core : Core) (code : Code) → used_class (renamed_core f core) (renamed_code f code) ≡ option_map (renamed_type f) (used_class core code)
  used_class_renamed core (m.FieldAt on field) = ap read_class (body_in_renamed f p core field) ∙ read_class_renamed (body_in core field)
  used_class_renamed core (m.Call receiver is_super method args) = static_class_in core method
  used_class_renamed core (m.Assign target op value) = assigned_class_renamed core target op
  used_class_renamed core code = refl

  pub first_use_renamed : (begun : List TypeId) (any : Option TypeId)
      → first_use (map (renamed_type f) begun) (option_map (renamed_type f) any) ≡ option_map (renamed_type f) (first_use begun any)
  first_use_renamed begun None = refl
  first_use_renamed begun (Some class) = cond_image (option_map (renamed_type f)) None (Some class) (is_among_renamed f p begun class) refl refl
