-- The classes and bodies of a core, subtypes, and the class of a value (JLS 4.10, 8, 15.12.4.4).
use Rattle.std.specs.Prelude.{ℕ, zero, suc, Bool, true, false, ◌||◌, if◌then◌else◌, List, [], ◌∷◌, ◌++◌, length, Option, Some, None, slice_get}
use Rattle.std.specs.Option.{option_and_then, option_map}
use Rattle.jr_base.specs.declared.ids.DeclId.{DeclId}
use Rattle.jr_base.specs.declared.ids.TypeId.{TypeId}
use Rattle.jr_base.specs.Mirror as t
use Rattle.jr_core.specs.declared.bodies.Class.{Class}
use Rattle.jr_core.specs.Mirror.{Body, Core}
use Rattle.jr_machine_defs.specs.declared.value.Value.{Value}
use Rattle.jr_machine_defs.specs.declared.value.Value.TheVariants as v
use Rattle.jr_machine_defs.specs.declared.heap.Cell.{Cell}
use Rattle.jr_machine_defs.specs.declared.heap.Cell.TheVariants as cell
use Rattle.jr_machine_defs.specs.Values.{same_decl, same_type}
use Rattle.jr_machine_defs.specs.Prelude.{object_class, string_class}

-- ---- look-ups

abbrev pub class_among : List Class → TypeId → Option Class
class_among [] id = None
class_among (c ∷ all) id = if same_type c.id id then Some c else class_among all id

abbrev pub body_among : List Body → DeclId → Option Body
body_among [] decl = None
body_among (b ∷ all) decl = if same_decl b.decl decl then Some b else body_among all decl

abbrev pub found_among : List (DeclId × DeclId) → DeclId → Option DeclId
found_among [] method = None
found_among (pair ∷ all) method = if same_decl pair.0 method then Some pair.1 else found_among all method

abbrev pub class_in : Core → TypeId → Option Class
class_in core id = class_among core.classes id

abbrev pub body_in : Core → DeclId → Option Body
body_in core decl = body_among core.bodies decl

-- the method that a call of this one runs on an instance of the class
abbrev pub found_in : Core → TypeId → DeclId → Option DeclId
found_in core class method = option_and_then (λ c. found_among c.found method) (class_in core class)

-- ---- subtypes

abbrev pub is_among : List TypeId → TypeId → Bool
is_among [] id = false
is_among (x ∷ all) id = same_type x id || is_among all id

-- these, with another one at the end, if it is not among them
abbrev pub with_other : List TypeId → TypeId → List TypeId
with_other these x = if is_among these x then these else these ++ x ∷ []

abbrev pub with_others : List TypeId → List TypeId → List TypeId
with_others these [] = these
with_others these (x ∷ all) = with_others (with_other these x) all

abbrev pub with_parent : List TypeId → Option TypeId → List TypeId
with_parent these None = these
with_parent these (Some parent) = with_other these parent

-- these, with the direct supertypes of a class or an interface
abbrev pub with_supers : List TypeId → Option Class → List TypeId
with_supers these None = these
with_supers these (Some c) = with_others (with_parent these c.parent) c.faces

-- these, with the direct supertypes of the others
abbrev pub with_supers_of : Core → List TypeId → List TypeId → List TypeId
with_supers_of core these [] = these
with_supers_of core these (x ∷ all) = with_supers_of core (with_supers these (class_in core x)) all

-- the high one is among these, or above one of them by less than so many levels
abbrev pub is_above : Core → ℕ → List TypeId → TypeId → Bool
is_above core zero these high = false
is_above core (suc levels) these high = is_among these high || is_above core levels (with_supers_of core [] these) high

-- the class or interface is the other, or below it; there are no more levels than classes
abbrev pub is_below : Core → TypeId → TypeId → Bool
is_below core low high = same_type high object_class || same_type low high || is_above core (length core.classes) (low ∷ []) high

-- subtypes of types of objects, and of components of arrays (JLS 4.10.2, 4.10.3)
abbrev pub is_subtype : Core → t.Ty → t.Ty → Bool
is_subtype core (t.Class low) (t.Class high) = is_below core low high
is_subtype core (t.Array low) (t.Class high) = same_type high object_class
is_subtype core (t.Array low) (t.Array high) = is_subtype core low high
is_subtype core t.Boolean t.Boolean = true
is_subtype core t.Byte t.Byte = true
is_subtype core t.Short t.Short = true
is_subtype core t.Char t.Char = true
is_subtype core t.Int t.Int = true
is_subtype core t.Long t.Long = true
is_subtype core low high = false

-- ---- the class of a value

abbrev pub cell_type : Cell → t.Ty
cell_type (cell.Object class outer fields) = t.Class class
cell_type (cell.Array item items) = t.Array item
cell_type (cell.Text units) = t.Class string_class

-- the type of the object that a value refers to (JLS 4.3.1)
abbrev pub type_of_object : List Cell → Value → Option t.Ty
type_of_object heap (v.Ref at) = option_map cell_type (slice_get heap at)
type_of_object heap (v.Text units) = Some (t.Class string_class)
type_of_object heap value = None

-- an array has the methods of Object (JLS 10.7)
abbrev pub class_of_type : t.Ty → TypeId
class_of_type (t.Class class) = class
class_of_type ty = object_class

abbrev pub class_of_object : List Cell → Value → Option TypeId
class_of_object heap value = option_map class_of_type (type_of_object heap value)

abbrev pub is_of : Core → t.Ty → Option t.Ty → Bool
is_of core ty None = false
is_of core ty (Some low) = is_subtype core low ty

-- `value instanceof ty`, of a value that is not null (JLS 15.20.2)
abbrev pub is_instance : Core → List Cell → Value → t.Ty → Bool
is_instance core heap value ty = is_of core ty (type_of_object heap value)
