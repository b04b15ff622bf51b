-- Which broken rule is shown: the first by place, and at one place the one with the least number.
use Rattle.std.specs.Prelude.{◌≡◌, ◌⊎◌, ◌<◌, List, Contains, Option, None, Some}
use Rattle.jr_base.specs.declared.token.Place.{Place}
use Rattle.jr_rule.specs.declared.Fault.{Fault}
use Rattle.jr_rule.specs.declared.Rule.{Rule}
use Rattle.jr_rule.specs.Numbers.{number_of}
use Rattle.jr_marks.specs.Places.{place_of_fault}
use Rattle.jr_marks.specs.declared.marks.Marks.{Marks}
use Rattle.jr_front.specs.Unbound.{IsBefore}

-- the first place comes before the other, or they are one and the number of the first rule is less
abbrev pub IsBetter : Rule × Place → Rule × Place → Type 0
IsBetter one other = IsBefore one.1 other.1 ⊎ ((one.1 ≡ other.1) × (number_of one.0 < number_of other.0))

-- the better one of the best so far, if there is one, and another; the best of two that are one
abbrev pub IsBetterOf : Option (Rule × Place) → Rule × Place → Rule × Place → Type 0
IsBetterOf None one better = better ≡ one
IsBetterOf (Some best) one better = (IsBetter one best × (better ≡ one)) ⊎ ((IsBetter one best → ⊥) × (better ≡ best))

-- a fault of the list as it is shown, and no fault of the list is better
pub record IsFirstBroken (m : Marks) (faults : List Fault) (best : Rule × Place) : Type 0 where
  pub fault : Fault
  pub member : Contains faults fault
  pub told : best ≡ (fault.rule, place_of_fault m fault)
  pub first : (other : Fault) → Contains faults other → IsBetter (other.rule, place_of_fault m other) best → ⊥
