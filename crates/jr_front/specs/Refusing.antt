-- Why a program that was read does not compile: the first cause in the order of the tests (units at their places, names of top-level types, cycles of headers, names,
-- rules), and what holds since the tests before it passed.
use Rattle.std.specs.Prelude.{◌≡◌, ℕ, true}
use Rattle.jr_base.specs.declared.ids.CuId.{CuId}
use Rattle.jr_base.specs.declared.token.Place.{Place}
use Rattle.jr_tree.specs.Rows.{Rows}
use Rattle.jr_defs.specs.declared.program.Program.{Program}
use Rattle.jr_defs.specs.Binding.{IsBinding, IsFirstOnCycle}
use Rattle.jr_defs.specs.Compiling.{AllFound}
use Rattle.jr_defs.specs.Program.{IsWellPlaced, rows_of}
use Rattle.jr_defs.specs.Referents.{Table}
use Rattle.jr_defs.specs.Rules.{Breaks}
use Rattle.jr_rule.specs.declared.Fault.{Fault}
use Rattle.jr_rule.specs.declared.Rule.{Rule}
use Rattle.jr_rule.specs.Numbers.{number_of}
use Rattle.jr_marks.specs.Made.{AreMade}
use Rattle.jr_marks.specs.Places.{place_of_fault, place_of_name}
use Rattle.jr_marks.specs.declared.marks.Marks.{Marks}
use Rattle.jr_member_faults.specs.Tops.{has_top_type_clash}
use Rattle.jr_front.specs.Broken.{IsBetter}
use Rattle.jr_front.specs.Compiling.{BreaksRule}
use Rattle.jr_front.specs.Placed.{IsFirstMisplacedOf}
use Rattle.jr_front.specs.Tested.{HasNoTopFault}
use Rattle.jr_front.specs.Unbound.{IsBefore, IsFirstLost}
use Rattle.jr_front.specs.declared.fault.FrontFault.{FrontFault}
use Rattle.jr_front.specs.declared.fault.FrontFault.TheVariants as fault

-- ---- names of types outside any other (JLS 7.1, 7.6)

-- the type has the name of one before it in its package, or of a subpackage; that is rule 2, whatever names refer to
pub record HasTopClash (p : Rows) (row : ℕ) : Type 0 where
  pub clash : has_top_type_clash p row ≡ true
  pub breaks : (t : Table) → Breaks p t 2 row

-- where the name of such a type stands, and no other such name stands before it
pub record IsFirstClash (m : Marks) (place : Place) : Type 0 where
  pub row : ℕ
  pub clash : HasTopClash m.rows.now row
  pub at : place ≡ place_of_name m row
  pub first : (other : ℕ) → HasTopClash m.rows.now other → IsBefore (place_of_name m other) place → ⊥

-- ---- rules

-- where a rule that is broken at a row is shown, and no row that breaks a rule is shown before it, by place and at one place by number
pub record IsFirstBreak (m : Marks) (t : Table) (rule : Rule) (place : Place) : Type 0 where
  pub row : ℕ
  pub at : place ≡ place_of_fault m (record { row = row; rule = rule })
  pub breaks : BreaksRule m m.rows.now t (number_of rule) row
  pub first : (other : Fault) → BreaksRule m m.rows.now t (number_of other.rule) other.row → IsBetter (other.rule, place_of_fault m other) (rule, place) → ⊥

-- ---- the causes

-- each unit stands at its place, and no top-level type has the name of another, or of a subpackage
pub record IsNamed (program : Program) : Type 0 where
  pub placed : IsWellPlaced program
  pub names : HasNoTopFault (rows_of program)

-- and the table is the binding
pub record IsBoundBy (program : Program) (t : Table) : Type 0 where
  pub named : IsNamed program
  pub binding : IsBinding (rows_of program) t

-- the cause of each reason; want of memory has none
pub data IsRefusal (program : Program) : FrontFault → Type 0 where
  misplaced : {cu : CuId} → IsFirstMisplacedOf program.units cu → IsRefusal program (fault.PathMismatch cu)
  named_twice : {m : Marks} {place : Place} → IsWellPlaced program → AreMade program m → IsFirstClash m place → IsRefusal program (fault.Duplicate place)
  on_cycle : {m : Marks} {row : ℕ} → IsNamed program → AreMade program m → IsFirstOnCycle (rows_of program) row → IsRefusal program (fault.Cycle (place_of_name m row))
  lost : {m : Marks} {t : Table} {place : Place} → IsBoundBy program t → AreMade program m → IsFirstLost m t place → IsRefusal program (fault.Unbound place)
  broken : {m : Marks} {t : Table} {rule : Rule} {place : Place} → IsBoundBy program t → AllFound (rows_of program) t → AreMade program m → IsFirstBreak m t rule place
      → IsRefusal program (fault.Broken rule place)
  no_memory : IsRefusal program fault.OutOfMemory
