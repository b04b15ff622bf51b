-- Places in lists.
use Rattle.std.specs.Prelude.{ℕ, suc, if◌then◌else◌, List, [], ◌∷◌}
use Rattle.jr_base.specs.declared.ids.DeclId.{DeclId}
use Rattle.jr_machine_defs.specs.declared.slots.Slot.{Slot}
use Rattle.jr_machine_defs.specs.Values.{same_decl}

-- the place of the variable's slot, or the number of slots
abbrev pub slot_index : List Slot → DeclId → ℕ
slot_index [] key = 0
slot_index (slot ∷ all) key = if same_decl slot.key key then 0 else suc (slot_index all key)
