-- One level up, and one object out.
use Rattle.std.proofs.Common.{◌≡◌, refl, ap, ◌∙◌, ℕ, zero, suc, ◌-◌, ◌<◌, true, false, List, [], ◌∷◌, length, Some, None, sub-one, arith}
use Rattle.jr_base.specs.declared.ids.TypeId.{TypeId}
use Rattle.jr_core.specs.Mirror.{Core}
use Rattle.jr_machine_defs.specs.declared.value.Value.{Value}
use Rattle.jr_machine_defs.specs.declared.heap.Cell.{Cell}
use Rattle.jr_machine_defs.specs.Values.{same_type}
use Rattle.jr_machine_defs.specs.Classes.{class_in, is_among, is_above, with_supers_of}
use Rattle.jr_machine_defs.specs.Control.{outer_of, outer_class, instance_at}

pub above_step : (core : Core) (levels : ℕ) (these : List TypeId) (high : TypeId) → 0 < levels → is_among these high ≡ false
    → is_above core levels these high ≡ is_above core (levels - 1) (with_supers_of core [] these) high
above_step core zero these high up h = absurd (omega arith)
above_step core (suc levels) these high up h = rw (h, sub-one) refl

above_empty : (core : Core) (levels : ℕ) (high : TypeId) → is_above core levels [] high ≡ false
above_empty core zero high = refl
above_empty core (suc levels) high = above_empty core levels high

-- nothing is above no class
pub above_none : (core : Core) (levels : ℕ) (these : List TypeId) (high : TypeId) → length these ≡ 0 → is_above core levels these high ≡ false
above_none core levels [] high none = above_empty core levels high
above_none core levels (x ∷ all) high none = absurd (omega arith)

pub outer_step : (core : Core) (heap : List Cell) (levels : ℕ) (class current : TypeId) (object : Value) → 0 < levels → same_type current class ≡ false
    → instance_at core heap levels class (Some current) (Some object) ≡ instance_at core heap (levels - 1) class (outer_class (class_in core current)) (outer_of heap object)
outer_step core heap zero class current object up h = absurd (omega arith)
outer_step core heap (suc levels) class current object up h = rw (h, sub-one) refl

pub outer_here : (core : Core) (heap : List Cell) (levels : ℕ) (class current : TypeId) (object : Value) → 0 < levels → same_type current class ≡ true
    → instance_at core heap levels class (Some current) (Some object) ≡ Some object
outer_here core heap zero class current object up h = absurd (omega arith)
outer_here core heap (suc levels) class current object up h = rw h refl

pub outer_end : (core : Core) (heap : List Cell) (class current : TypeId) (object : Value) → instance_at core heap 0 class (Some current) (Some object) ≡ None
outer_end core heap class current object = refl

pub outer_top : (core : Core) (heap : List Cell) (levels : ℕ) (class current : TypeId) (object : Value) → 0 < levels → same_type current class ≡ false
    → outer_class (class_in core current) ≡ None → instance_at core heap levels class (Some current) (Some object) ≡ None
outer_top core heap levels class current object up h top =
    outer_step core heap levels class current object up h ∙ ap (λ c. instance_at core heap (levels - 1) class c (outer_of heap object)) top

pub outer_lost : (core : Core) (heap : List Cell) (levels : ℕ) (class current next : TypeId) (object : Value) → 0 < levels → same_type current class ≡ false
    → outer_class (class_in core current) ≡ Some next → outer_of heap object ≡ None → instance_at core heap levels class (Some current) (Some object) ≡ None
outer_lost core heap levels class current next object up h out lost =
    outer_step core heap levels class current object up h ∙ (ap (λ c. instance_at core heap (levels - 1) class c (outer_of heap object)) out
    ∙ ap (λ o. instance_at core heap (levels - 1) class (Some next) o) lost)

pub outer_next : (core : Core) (heap : List Cell) (levels : ℕ) (class current next : TypeId) (object around : Value) → 0 < levels → same_type current class ≡ false
    → outer_class (class_in core current) ≡ Some next → outer_of heap object ≡ Some around
    → instance_at core heap levels class (Some current) (Some object) ≡ instance_at core heap (levels - 1) class (Some next) (Some around)
outer_next core heap levels class current next object around up h out found =
    outer_step core heap levels class current object up h ∙ (ap (λ c. instance_at core heap (levels - 1) class c (outer_of heap object)) out
    ∙ ap (λ o. instance_at core heap (levels - 1) class (Some next) o) found)
