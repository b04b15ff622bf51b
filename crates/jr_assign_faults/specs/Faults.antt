-- The faults of the rules on assignment, and the rows at which the definitions break them.
use Rattle.std.specs.Prelude.{ℕ, List}
use Rattle.jr_plain.specs.Search.{Lists}
use Rattle.jr_rule.specs.declared.Fault.{Fault}
use Rattle.jr_rule.specs.declared.Rule.{Rule}
use Rattle.jr_rule.specs.Numbers.{number_of}
use Rattle.jr_rule.specs.Faults.{AreFaultsOf}
use Rattle.jr_view.specs.declared.View.{View}
use Rattle.jr_assign_faults.specs.Changed.{rows_in, table_in}
use Rattle.jr_assign_faults.specs.Finals.{BreaksAssignment}

-- the faults of the rule that were added stand at just the rows that break it
pub record AreExactFaults (view : View) (rule : Rule) (old new : List Fault) : Type 0 where
  pub rows : List ℕ
  pub are : AreFaultsOf rule rows old new
  pub each : Lists rows (BreaksAssignment (rows_in view) (table_in view) (number_of rule))
