use Rattle.jr_plain.specs.Search.{all_such}
use Rattle.jr_rule.specs.declared.Rule.TheVariants as rule
use Rattle.jr_rule.specs.Faults.{AreFaultsOf}
use Rattle.jr_faults.specs.Added.{is_rule, AreOnly}
use Rattle.jr_flow_faults.specs.ExceptionTests.{is_uncaught}
use Rattle.jr_flow_faults.specs.Reading.{IsReading, rows_of, table_of, types_in, completes_of, AreArrived}
use Rattle.jr_flow_faults.proofs.throwing.Reading.note_rows.Given as goal

abbrev pub invariant-loop-at : goal.invariant-loop-at
invariant-loop-at l = AreOnly (is_rule rule.UncaughtException) l.fn.out.items l.out.items
    × (IsReading l.self → AreArrived (rows_of l.self) (table_of l.self) (completes_of l.self) 0 l.fn.arrived
    → AreArrived (rows_of l.self) (table_of l.self) (completes_of l.self) l.at l.arrived
    × AreFaultsOf rule.UncaughtException (all_such l.at (is_uncaught (rows_of l.self) (table_of l.self) (types_in l.self.view.now) (completes_of l.self))) l.fn.out.items l.out.items)
