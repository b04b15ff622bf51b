use Rattle.std.proofs.Common.{length, ◌<◌}
use Rattle.jr_tree.specs.Rows.{label}
use Rattle.jr_defs.specs.Supertypes.{AtOrAbove}
use Rattle.jr_supers.specs.Supers.{ListsOnce}
use Rattle.jr_flow_faults.specs.Exceptions.{IsCode}
use Rattle.jr_flow_faults.specs.Outwards.{AreAbove, IsFollowing}
use Rattle.jr_flow_faults.specs.Reading.{IsReading, rows_of, table_of, completes_of}
use Rattle.jr_flow_faults.proofs.throwing.Reading.follow.Given as goal

abbrev pub invariant-loop-turn : goal.invariant-loop-turn
invariant-loop-turn l = IsReading l.self → (IsCode (label (rows_of l.self) l.at) → ⊥) → l.at < length (rows_of l.self) → ListsOnce l.uppers (AtOrAbove (rows_of l.self) (table_of l.self) l.class)
    → IsFollowing (rows_of l.self) (table_of l.self) (completes_of l.self) l.class l.at l.fn.arrived.thrown l.arrived.thrown l.next l._turn
    × (AreAbove (rows_of l.self) (table_of l.self) l.fn.arrived.thrown l.fn.arrived.above → AreAbove (rows_of l.self) (table_of l.self) l.arrived.thrown l.arrived.above)
