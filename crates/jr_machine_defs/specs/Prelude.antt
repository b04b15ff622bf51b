-- The classes and methods of the prelude that the machine knows by itself, by their nodes in its two units.
use Rattle.std.specs.Prelude.{ℕ}
use Rattle.jr_base.specs.declared.ids.DeclId.{DeclId}
use Rattle.jr_base.specs.declared.ids.TypeId.{TypeId}
use Rattle.jr_machine_defs.specs.declared.outcome.Fault.{Fault}
use Rattle.jr_machine_defs.specs.declared.outcome.Fault.TheVariants as fault

abbrev pub decl_at : ℕ → ℕ → DeclId
decl_at cu node = record { at = record { cu = record { 0 = cu }; node = record { 0 = node } }; part = 0 }

abbrev pub type_at : ℕ → TypeId
type_at node = record { 0 = decl_at 0 node }

abbrev pub object_class : TypeId
object_class = type_at 3

abbrev pub to_string_method : DeclId
to_string_method = decl_at 0 19

abbrev pub string_class : TypeId
string_class = type_at 25

abbrev pub length_method : DeclId
length_method = decl_at 0 28

abbrev pub char_at_method : DeclId
char_at_method = decl_at 0 30

abbrev pub equals_method : DeclId
equals_method = decl_at 0 34

abbrev pub print_method : DeclId
print_method = decl_at 1 4

abbrev pub fault_class : Fault → TypeId
fault_class fault.Arithmetic = type_at 118
fault_class fault.NullPointer = type_at 130
fault_class fault.ClassCast = type_at 142
fault_class fault.ArrayStore = type_at 154
fault_class fault.NegativeArraySize = type_at 166
fault_class fault.ArrayIndex = type_at 214
fault_class fault.StringIndex = type_at 226
