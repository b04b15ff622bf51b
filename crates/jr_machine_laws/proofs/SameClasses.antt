-- Look-ups, subtypes, catches and enclosing instances in cores that are the same.
use Rattle.std.proofs.Common.{◌≡◌, refl, ap, ◌∙◌, ℕ, zero, suc, ◌||◌, cond, List, [], ◌∷◌, length, Option, Some, None}
use Rattle.std.specs.Option.{option_and_then}
use Rattle.jr_base.specs.declared.ids.DeclId.{DeclId}
use Rattle.jr_base.specs.declared.ids.TypeId.{TypeId}
use Rattle.jr_base.specs.Mirror as t
use Rattle.jr_core.specs.declared.bodies.Class.{Class}
use Rattle.jr_core.specs.Mirror as m
use Rattle.jr_core.specs.Mirror.{Core}
use Rattle.jr_machine_defs.specs.declared.value.Value.{Value}
use Rattle.jr_machine_defs.specs.declared.heap.Cell.{Cell}
use Rattle.jr_machine_defs.specs.Prelude.{object_class}
use Rattle.jr_machine_defs.specs.Values.{same_type}
use Rattle.jr_machine_defs.specs.Classes.{class_in, found_in, found_among, is_among, with_others, with_parent, with_supers, with_supers_of, is_above, is_below, is_subtype, is_of, is_instance, type_of_object}
use Rattle.jr_machine_defs.specs.Control.{catch_for, outer_of, outer_class, instance_at, instance_of}
use Rattle.jr_machine_laws.specs.SameCore.{AlikeClasses, SameCore}

-- ---- what is read of a class

found_of : (x y : Option Class) → AlikeClasses x y → (method : DeclId) → option_and_then (λ c. found_among c.found method) x ≡ option_and_then (λ c. found_among c.found method) y
found_of None None h method = refl
found_of None (Some d) h method = absurd h
found_of (Some c) None h method = absurd h
found_of (Some c) (Some d) h method = h.found method

supers_of : (these : List TypeId) (x y : Option Class) → AlikeClasses x y → with_supers these x ≡ with_supers these y
supers_of these None None h = refl
supers_of these None (Some d) h = absurd h
supers_of these (Some c) None h = absurd h
supers_of these (Some c) (Some d) h = λ i. with_others (with_parent these (h.parent i)) (h.faces i)

outer_class_of : (x y : Option Class) → AlikeClasses x y → outer_class x ≡ outer_class y
outer_class_of None None h = refl
outer_class_of None (Some d) h = absurd h
outer_class_of (Some c) None h = absurd h
outer_class_of (Some c) (Some d) h = h.outer

module _ (a b : Core) (same : SameCore a b) where
  pub found_in_same : (class : TypeId) (method : DeclId) → found_in a class method ≡ found_in b class method
  found_in_same class method = found_of (class_in a class) (class_in b class) (same.classes class) method

  -- ---- subtypes

  with_supers_of_same : (these all : List TypeId) → with_supers_of a these all ≡ with_supers_of b these all
  with_supers_of_same these [] = refl
  with_supers_of_same these (x ∷ all) =
      ap (λ y. with_supers_of a y all) (supers_of these (class_in a x) (class_in b x) (same.classes x)) ∙ with_supers_of_same (with_supers these (class_in b x)) all

  is_above_same : (levels : ℕ) (these : List TypeId) (high : TypeId) → is_above a levels these high ≡ is_above b levels these high
  is_above_same zero these high = refl
  is_above_same (suc levels) these high =
      ap (λ y. is_among these high || is_above a levels y high) (with_supers_of_same [] these)
      ∙ ap (λ y. is_among these high || y) (is_above_same levels (with_supers_of b [] these) high)

  pub is_below_same : (low high : TypeId) → is_below a low high ≡ is_below b low high
  is_below_same low high =
      ap (λ n. same_type high object_class || same_type low high || is_above a n (low ∷ []) high) same.count
      ∙ ap (λ y. same_type high object_class || same_type low high || y) (is_above_same (length b.classes) (low ∷ []) high)

  is_subtype_same : (low high : t.Ty) → is_subtype a low high ≡ is_subtype b low high
  is_subtype_same (t.Class low) (t.Class high) = is_below_same low high
  is_subtype_same (t.Array low) (t.Class high) = refl
  is_subtype_same (t.Array low) (t.Array high) = is_subtype_same low high
  is_subtype_same t.Boolean t.Boolean = refl
  is_subtype_same t.Byte t.Byte = refl
  is_subtype_same t.Short t.Short = refl
  is_subtype_same t.Char t.Char = refl
  is_subtype_same t.Int t.Int = refl
  is_subtype_same t.Long t.Long = refl
  is_subtype_same low high = refl

  is_of_same : (ty : t.Ty) (any : Option t.Ty) → is_of a ty any ≡ is_of b ty any
  is_of_same ty None = refl
  is_of_same ty (Some low) = is_subtype_same low ty

  pub is_instance_same : (heap : List Cell) (value : Value) (ty : t.Ty) → is_instance a heap value ty ≡ is_instance b heap value ty
  is_instance_same heap value ty = is_of_same ty (type_of_object heap value)

  -- ---- catches

  pub catch_for_same : (class : TypeId) (all : m.Catches) → catch_for a class all ≡ catch_for b class all
  catch_for_same class m.no_catches = refl
  catch_for_same class (m.more_catches (m.CatchOf k param body) all) = λ i. cond (is_below_same class k i) (Some (m.CatchOf k param body)) (catch_for_same class all i)

  -- ---- enclosing instances

  instance_at_same : (heap : List Cell) (levels : ℕ) (class : TypeId) (current : Option TypeId) (object : Option Value)
      → instance_at a heap levels class current object ≡ instance_at b heap levels class current object
  instance_at_same heap zero class None object = refl
  instance_at_same heap zero class (Some current) None = refl
  instance_at_same heap zero class (Some current) (Some object) = refl
  instance_at_same heap (suc levels) class None object = refl
  instance_at_same heap (suc levels) class (Some current) None = refl
  instance_at_same heap (suc levels) class (Some current) (Some object) =
      ap (cond (same_type current class) (Some object))
      (ap (λ c. instance_at a heap levels class c (outer_of heap object)) (outer_class_of (class_in a current) (class_in b current) (same.classes current))
      ∙ instance_at_same heap levels class (outer_class (class_in b current)) (outer_of heap object))

  pub instance_of_same : (heap : List Cell) (class current : TypeId) (object : Value) → instance_of a heap class current object ≡ instance_of b heap class current object
  instance_of_same heap class current object =
      ap (λ n. instance_at a heap n class (Some current) (Some object)) same.count ∙ instance_at_same heap (length b.classes) class (Some current) (Some object)
