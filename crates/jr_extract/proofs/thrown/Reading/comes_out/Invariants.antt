use Rattle.std.proofs.Common.{◌≡◌, true}
use Rattle.jr_flow_faults.specs.Computed.{rows_in, table_in}
use Rattle.jr_flow_faults.specs.Reading.{completes_in}
use Rattle.jr_extract.specs.Running.{holds}
use Rattle.jr_extract.specs.Throwing.{IsReading, view_of}
use Rattle.jr_extract.proofs.Throws.{IsAscending}
use Rattle.jr_extract.proofs.thrown.Reading.comes_out.Given as goal

abbrev pub invariant-loop-turn : goal.invariant-loop-turn
invariant-loop-turn l = IsReading l.self → holds l.self.run l.at ≡ true → IsAscending (rows_in (view_of l.self)) (table_in (view_of l.self)) (completes_in (view_of l.self)) l.self.run l.class l.at l.here l._turn
