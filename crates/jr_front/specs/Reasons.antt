-- What each test says where it fails, by what it reads.
use Rattle.std.specs.Prelude.{◌≡◌, ℕ, List}
use Rattle.jr_base.specs.declared.token.Place.{Place}
use Rattle.jr_defs.specs.declared.program.Program.{Program}
use Rattle.jr_defs.specs.Binding.{IsFirstOnCycle}
use Rattle.jr_defs.specs.Referents.{Table}
use Rattle.jr_rule.specs.declared.Fault.{Fault}
use Rattle.jr_rule.specs.declared.Rule.{Rule}
use Rattle.jr_marks.specs.Places.{place_of_name}
use Rattle.jr_marks.specs.declared.marks.Marks.{Marks}
use Rattle.jr_view.specs.declared.View.{View}
use Rattle.jr_front.specs.Broken.{IsFirstBroken}
use Rattle.jr_front.specs.Placed.{IsFirstMisplacedOf}
use Rattle.jr_front.specs.Refusing.{IsFirstClash}
use Rattle.jr_front.specs.Tested.{AreFaultsIn}
use Rattle.jr_front.specs.Unbound.{IsFirstLost}
use Rattle.jr_front.specs.declared.fault.FrontFault.{FrontFault}
use Rattle.jr_front.specs.declared.fault.FrontFault.TheVariants as fault

abbrev pub IsPathReason : Program → FrontFault → Type 0
IsPathReason program (fault.PathMismatch cu) = IsFirstMisplacedOf program.units cu
IsPathReason program fault.OutOfMemory = Unit {0}
IsPathReason program other = ⊥

abbrev pub IsNameReason : Marks → FrontFault → Type 0
IsNameReason m (fault.Duplicate place) = IsFirstClash m place
IsNameReason m fault.OutOfMemory = Unit {0}
IsNameReason m other = ⊥

-- the first type on a cycle
pub record IsCycleAt (m : Marks) (place : Place) : Type 0 where
  pub row : ℕ
  pub cycle : IsFirstOnCycle m.rows.now row
  pub at : place ≡ place_of_name m row

abbrev pub IsCycleReason : Marks → FrontFault → Type 0
IsCycleReason m (fault.Cycle place) = IsCycleAt m place
IsCycleReason m fault.OutOfMemory = Unit {0}
IsCycleReason m other = ⊥

abbrev pub IsTableReason : Marks → Table → FrontFault → Type 0
IsTableReason m t (fault.Unbound place) = IsFirstLost m t place
IsTableReason m t fault.OutOfMemory = Unit {0}
IsTableReason m t other = ⊥

-- the first of the faults that were found
pub record IsFirstFound (m : Marks) (view : View) (best : Rule × Place) : Type 0 where
  pub faults : List Fault
  pub found : AreFaultsIn m view faults
  pub first : IsFirstBroken m faults best

abbrev pub IsRuleReason : Marks → View → FrontFault → Type 0
IsRuleReason m view (fault.Broken rule place) = IsFirstFound m view (rule, place)
IsRuleReason m view fault.OutOfMemory = Unit {0}
IsRuleReason m view other = ⊥
