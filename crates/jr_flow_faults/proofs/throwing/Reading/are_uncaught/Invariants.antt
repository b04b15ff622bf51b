use Rattle.std.proofs.Common.{length, take, ◌<◌}
use Rattle.jr_tree.specs.Rows.{label}
use Rattle.jr_flow_faults.specs.Exceptions.{IsCode}
use Rattle.jr_flow_faults.specs.Reading.{IsReading, rows_of, table_of, completes_of, NotesClasses}
use Rattle.jr_flow_faults.proofs.throwing.Reading.are_uncaught.Given as goal

abbrev pub invariant-loop-class : goal.invariant-loop-class
invariant-loop-class l = IsReading l.self → (IsCode (label (rows_of l.self) l.at) → ⊥) → l.at < length (rows_of l.self)
    → NotesClasses (rows_of l.self) (table_of l.self) (completes_of l.self) l.at (take l.class-index l.classes) l.fn.arrived l.arrived l.is_broken
