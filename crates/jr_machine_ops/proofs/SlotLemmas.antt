-- An assignment sets the slot at the variable's place, or adds one.
use Rattle.std.proofs.Common.{◌≡◌, refl, ap, suc, ◌<◌, ◌≤◌, Bool, true, false, cond, List, [], ◌∷◌, ◌++◌, length, arith}
use Rattle.std.specs.Prelude.{slice_set}
use Rattle.jr_base.specs.declared.ids.DeclId.{DeclId}
use Rattle.jr_machine_defs.specs.declared.value.Value.{Value}
use Rattle.jr_machine_defs.specs.declared.slots.Slot.{Slot}
use Rattle.jr_machine_defs.specs.Values.{same_decl, assigned, slot_of}
use Rattle.jr_machine_defs.specs.Finding.{slot_index}

at_slot : (b : Bool) (s : Slot) (all : List Slot) (key : DeclId) (value : Value) → (slot_index all key < length all → assigned all key value ≡ slice_set all (slot_index all key) (slot_of key value))
    → cond b 0 (suc (slot_index all key)) < suc (length all)
    → cond b (slot_of key value ∷ all) (s ∷ assigned all key value) ≡ slice_set (s ∷ all) (cond b 0 (suc (slot_index all key))) (slot_of key value)
at_slot true s all key value rest h = refl
at_slot false s all key value rest h = ap (λ t. s ∷ t) (rest (omega arith))

pub assigned_in_place : (slots : List Slot) (key : DeclId) (value : Value) → slot_index slots key < length slots → assigned slots key value ≡ slice_set slots (slot_index slots key) (slot_of key value)
assigned_in_place [] key value h = absurd (omega arith)
assigned_in_place (s ∷ all) key value h = at_slot (same_decl s.key key) s all key value (assigned_in_place all key value) h

at_end : (b : Bool) (s : Slot) (all : List Slot) (key : DeclId) (value : Value) → (length all ≤ slot_index all key → assigned all key value ≡ all ++ slot_of key value ∷ [])
    → suc (length all) ≤ cond b 0 (suc (slot_index all key))
    → cond b (slot_of key value ∷ all) (s ∷ assigned all key value) ≡ s ∷ (all ++ slot_of key value ∷ [])
at_end true s all key value rest h = absurd (omega arith)
at_end false s all key value rest h = ap (λ t. s ∷ t) (rest (omega arith))

pub assigned_at_end : (slots : List Slot) (key : DeclId) (value : Value) → length slots ≤ slot_index slots key → assigned slots key value ≡ slots ++ slot_of key value ∷ []
assigned_at_end [] key value h = refl
assigned_at_end (s ∷ all) key value h = at_end (same_decl s.key key) s all key value (assigned_at_end all key value) h
