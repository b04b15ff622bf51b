-- Classes, bodies and subtypes under a renaming.
use Rattle.std.proofs.Common.{◌≡◌, refl, sym, ap, ◌∙◌, ℕ, zero, suc, List, [], ◌∷◌, ◌++◌, map, length, Option, Some, None}
use Rattle.std.specs.Option.{option_map, option_and_then}
use Rattle.std.specs.Prelude.{slice_get}
use Rattle.std.proofs.lemmas.List.{map_push, length-map}
use Rattle.std.proofs.lemmas.Option.{slice_get-map}
use Rattle.jr_base.specs.declared.ids.DeclId.{DeclId}
use Rattle.jr_base.specs.declared.ids.TypeId.{TypeId}
use Rattle.jr_base.specs.Mirror as t
use Rattle.jr_core.specs.declared.bodies.Class.{Class}
use Rattle.jr_core.specs.Mirror.{Body, Core}
use Rattle.jr_machine_defs.specs.declared.value.Value.{Value}
use Rattle.jr_machine_defs.specs.declared.value.Value.TheVariants as v
use Rattle.jr_machine_defs.specs.declared.heap.Cell.{Cell}
use Rattle.jr_machine_defs.specs.declared.heap.Cell.TheVariants as cell
use Rattle.jr_machine_defs.specs.Prelude.{object_class, string_class}
use Rattle.jr_machine_defs.specs.Classes.{class_among, body_among, found_among, class_in, body_in, found_in, is_among, with_other, with_others, with_parent, with_supers, with_supers_of, is_above, is_below, is_subtype, cell_type, type_of_object, class_of_type, class_of_object, is_of, is_instance}
use Rattle.jr_machine_defs.specs.Renamed.{IsRenaming, IsOwn, renamed_type, renamed_ty, renamed_pair, renamed_class, renamed_body, renamed_core, renamed_cell}
use Rattle.jr_machine_defs.proofs.RenamedValues.{cond_image, or_same, same_renamed, same_type_renamed, same_type_kept}

abbrev type_by : DeclId → TypeId
type_by d = record { 0 = d }

module _ (f : DeclId → DeclId) (p : IsRenaming f) where
  -- ---- look-ups

  class_among_renamed : (all : List Class) (id : TypeId) → class_among (map (renamed_class f) all) (renamed_type f id) ≡ option_map (renamed_class f) (class_among all id)
  class_among_renamed [] id = refl
  class_among_renamed (c ∷ all) id = cond_image (option_map (renamed_class f)) (Some c) (class_among all id) (same_type_renamed f p c.id id) refl (class_among_renamed all id)

  body_among_renamed : (all : List Body) (decl : DeclId) → body_among (map (renamed_body f) all) (f decl) ≡ option_map (renamed_body f) (body_among all decl)
  body_among_renamed [] decl = refl
  body_among_renamed (b ∷ all) decl = cond_image (option_map (renamed_body f)) (Some b) (body_among all decl) (same_renamed f p b.decl decl) refl (body_among_renamed all decl)

  found_among_renamed : (all : List (DeclId × DeclId)) (method : DeclId) → found_among (map (renamed_pair f) all) (f method) ≡ option_map f (found_among all method)
  found_among_renamed [] method = refl
  found_among_renamed (pair ∷ all) method = cond_image (option_map f) (Some pair.1) (found_among all method) (same_renamed f p pair.0 method) refl (found_among_renamed all method)

  pub class_in_renamed : (core : Core) (id : TypeId) → class_in (renamed_core f core) (renamed_type f id) ≡ option_map (renamed_class f) (class_in core id)
  class_in_renamed core id = class_among_renamed core.classes id

  pub body_in_renamed : (core : Core) (decl : DeclId) → body_in (renamed_core f core) (f decl) ≡ option_map (renamed_body f) (body_in core decl)
  body_in_renamed core decl = body_among_renamed core.bodies decl

  found_of_renamed : (any : Option Class) (method : DeclId)
      → option_and_then (λ c. found_among c.found (f method)) (option_map (renamed_class f) any) ≡ option_map f (option_and_then (λ c. found_among c.found method) any)
  found_of_renamed None method = refl
  found_of_renamed (Some c) method = found_among_renamed c.found method

  pub found_in_renamed : (core : Core) (class : TypeId) (method : DeclId) → found_in (renamed_core f core) (renamed_type f class) (f method) ≡ option_map f (found_in core class method)
  found_in_renamed core class method =
      ap (option_and_then (λ c. found_among c.found (f method))) (class_in_renamed core class) ∙ found_of_renamed (class_in core class) method

  -- ---- subtypes

  pub is_among_renamed : (all : List TypeId) (id : TypeId) → is_among (map (renamed_type f) all) (renamed_type f id) ≡ is_among all id
  is_among_renamed [] id = refl
  is_among_renamed (x ∷ all) id = or_same (same_type_renamed f p x id) (is_among_renamed all id)

  with_other_renamed : (these : List TypeId) (x : TypeId) → with_other (map (renamed_type f) these) (renamed_type f x) ≡ map (renamed_type f) (with_other these x)
  with_other_renamed these x = cond_image (map (renamed_type f)) these (these ++ x ∷ []) (is_among_renamed these x) refl (sym (map_push (renamed_type f) these x))

  with_others_renamed : (these others : List TypeId) → with_others (map (renamed_type f) these) (map (renamed_type f) others) ≡ map (renamed_type f) (with_others these others)
  with_others_renamed these [] = refl
  with_others_renamed these (x ∷ all) = ap (λ y. with_others y (map (renamed_type f) all)) (with_other_renamed these x) ∙ with_others_renamed (with_other these x) all

  with_parent_renamed : (these : List TypeId) (parent : Option TypeId)
      → with_parent (map (renamed_type f) these) (option_map (renamed_type f) parent) ≡ map (renamed_type f) (with_parent these parent)
  with_parent_renamed these None = refl
  with_parent_renamed these (Some parent) = with_other_renamed these parent

  with_supers_renamed : (these : List TypeId) (any : Option Class)
      → with_supers (map (renamed_type f) these) (option_map (renamed_class f) any) ≡ map (renamed_type f) (with_supers these any)
  with_supers_renamed these None = refl
  with_supers_renamed these (Some c) =
      ap (λ y. with_others y (map (renamed_type f) c.faces)) (with_parent_renamed these c.parent) ∙ with_others_renamed (with_parent these c.parent) c.faces

  with_supers_of_renamed : (core : Core) (these all : List TypeId)
      → with_supers_of (renamed_core f core) (map (renamed_type f) these) (map (renamed_type f) all) ≡ map (renamed_type f) (with_supers_of core these all)
  with_supers_of_renamed core these [] = refl
  with_supers_of_renamed core these (x ∷ all) =
      ap (λ y. with_supers_of (renamed_core f core) (with_supers (map (renamed_type f) these) y) (map (renamed_type f) all)) (class_in_renamed core x)
      ∙ (ap (λ y. with_supers_of (renamed_core f core) y (map (renamed_type f) all)) (with_supers_renamed these (class_in core x))
      ∙ with_supers_of_renamed core (with_supers these (class_in core x)) all)

  is_above_renamed : (core : Core) (levels : ℕ) (these : List TypeId) (high : TypeId)
      → is_above (renamed_core f core) levels (map (renamed_type f) these) (renamed_type f high) ≡ is_above core levels these high
  is_above_renamed core zero these high = refl
  is_above_renamed core (suc levels) these high =
      or_same (is_among_renamed these high)
      (ap (λ y. is_above (renamed_core f core) levels y (renamed_type f high)) (with_supers_of_renamed core [] these) ∙ is_above_renamed core levels (with_supers_of core [] these) high)

  pub classes_count : (core : Core) → length (map (renamed_class f) core.classes) ≡ length core.classes
  classes_count core = length-map core.classes (renamed_class f)

  pub is_below_renamed : (core : Core) (low high : TypeId) → is_below (renamed_core f core) (renamed_type f low) (renamed_type f high) ≡ is_below core low high
  is_below_renamed core low high =
      or_same (or_same (same_type_kept f p high object_class (p.keeps_own object_class.0 IsOwn.object)) (same_type_renamed f p low high))
      (ap (λ n. is_above (renamed_core f core) n (renamed_type f low ∷ []) (renamed_type f high)) (classes_count core) ∙ is_above_renamed core (length core.classes) (low ∷ []) high)

  pub is_subtype_renamed : (core : Core) (low high : t.Ty) → is_subtype (renamed_core f core) (renamed_ty f low) (renamed_ty f high) ≡ is_subtype core low high
  is_subtype_renamed core (t.Class low) (t.Class high) = is_below_renamed core low high
  is_subtype_renamed core (t.Array low) (t.Class high) = same_type_kept f p high object_class (p.keeps_own object_class.0 IsOwn.object)
  is_subtype_renamed core (t.Array low) (t.Array high) = is_subtype_renamed core low high
  is_subtype_renamed core t.Boolean t.Boolean = refl
  is_subtype_renamed core t.Byte t.Byte = refl
  is_subtype_renamed core t.Short t.Short = refl
  is_subtype_renamed core t.Char t.Char = refl
  is_subtype_renamed core t.Int t.Int = refl
  is_subtype_renamed core t.Long t.Long = refl
  is_subtype_renamed core low high = refl

  -- ---- the class of a value

  pub object_kept : renamed_type f object_class ≡ object_class
  object_kept = ap type_by (p.keeps_own object_class.0 IsOwn.object)

  pub string_kept : t.Class (renamed_type f string_class) ≡ t.Class string_class
  string_kept = ap (λ d. t.Class (type_by d)) (p.keeps_own string_class.0 IsOwn.string)

  cell_type_renamed : (c : Cell) → cell_type (renamed_cell f c) ≡ renamed_ty f (cell_type c)
  cell_type_renamed (cell.Object class outer fields) = refl
  cell_type_renamed (cell.Array item items) = refl
  cell_type_renamed (cell.Text units) = sym string_kept

  types_renamed : (any : Option Cell) → option_map cell_type (option_map (renamed_cell f) any) ≡ option_map (renamed_ty f) (option_map cell_type any)
  types_renamed None = refl
  types_renamed (Some c) = ap Some (cell_type_renamed c)

  pub type_of_object_renamed : (heap : List Cell) (value : Value) → type_of_object (map (renamed_cell f) heap) value ≡ option_map (renamed_ty f) (type_of_object heap value)
  type_of_object_renamed heap (v.Ref at) = ap (option_map cell_type) (slice_get-map (renamed_cell f) heap at) ∙ types_renamed (slice_get heap at)
  type_of_object_renamed heap (v.Text units) = ap Some (sym string_kept)
  type_of_object_renamed heap value = refl

  class_of_type_renamed : (ty : t.Ty) → class_of_type (renamed_ty f ty) ≡ renamed_type f (class_of_type ty)
  class_of_type_renamed (t.Class class) = refl
  class_of_type_renamed ty = sym object_kept

  classes_renamed : (any : Option t.Ty) → option_map class_of_type (option_map (renamed_ty f) any) ≡ option_map (renamed_type f) (option_map class_of_type any)
  classes_renamed None = refl
  classes_renamed (Some ty) = ap Some (class_of_type_renamed ty)

  pub class_of_object_renamed : (heap : List Cell) (value : Value) → class_of_object (map (renamed_cell f) heap) value ≡ option_map (renamed_type f) (class_of_object heap value)
  class_of_object_renamed heap value = ap (option_map class_of_type) (type_of_object_renamed heap value) ∙ classes_renamed (type_of_object heap value)

  is_of_renamed : (core : Core) (ty : t.Ty) (any : Option t.Ty) → is_of (renamed_core f core) (renamed_ty f ty) (option_map (renamed_ty f) any) ≡ is_of core ty any
  is_of_renamed core ty None = refl
  is_of_renamed core ty (Some low) = is_subtype_renamed core low ty

  pub is_instance_renamed : (core : Core) (heap : List Cell) (value : Value) (ty : t.Ty)
      → is_instance (renamed_core f core) (map (renamed_cell f) heap) value (renamed_ty f ty) ≡ is_instance core heap value ty
  is_instance_renamed core heap value ty =
      ap (is_of (renamed_core f core) (renamed_ty f ty)) (type_of_object_renamed heap value) ∙ is_of_renamed core ty (type_of_object heap value)
