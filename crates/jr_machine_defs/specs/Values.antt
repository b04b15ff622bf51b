-- Values and variables (JLS 4.12).
use Rattle.std.specs.Prelude.{ℕ, Bool, true, false, ◌&&◌, ◌==◌, if◌then◌else◌, List, [], ◌∷◌, Option, Some, None, pos}
use Rattle.jr_base.specs.declared.ids.DeclId.{DeclId}
use Rattle.jr_base.specs.declared.ids.TypeId.{TypeId}
use Rattle.jr_base.specs.Mirror as t
use Rattle.jr_machine_defs.specs.declared.value.Value.{Value}
use Rattle.jr_machine_defs.specs.declared.value.Value.TheVariants as v
use Rattle.jr_machine_defs.specs.declared.slots.Slot.{Slot}

-- the two are the same declaration
abbrev pub same_decl : DeclId → DeclId → Bool
same_decl a b = (a.at.cu.0 == b.at.cu.0) && (a.at.node.0 == b.at.node.0) && (a.part == b.part)

-- the two are the same class or interface
abbrev pub same_type : TypeId → TypeId → Bool
same_type a b = same_decl a.0 b.0

-- the variable's value, if it has been assigned
abbrev pub value_of : List Slot → DeclId → Option Value
value_of [] key = None
value_of (slot ∷ all) key = if same_decl slot.key key then Some slot.value else value_of all key

abbrev pub slot_of : DeclId → Value → Slot
slot_of key value = record { key = key; value = value }

-- the variables, with this value of that one
abbrev pub assigned : List Slot → DeclId → Value → List Slot
assigned [] key value = slot_of key value ∷ []
assigned (slot ∷ all) key value = if same_decl slot.key key then slot_of key value ∷ all else slot ∷ assigned all key value

-- the initial value of a field, and of a component of an array (JLS 4.12.5)
abbrev pub default_of : t.Ty → Value
default_of t.Boolean = v.Bool false
default_of t.Byte = v.Byte (pos 0)
default_of t.Short = v.Short (pos 0)
default_of t.Char = v.Char 0
default_of t.Int = v.Int (pos 0)
default_of t.Long = v.Long (pos 0)
default_of t.Null = v.Null
default_of t.Void = v.Null
default_of (t.Class class) = v.Null
default_of (t.Array item) = v.Null
