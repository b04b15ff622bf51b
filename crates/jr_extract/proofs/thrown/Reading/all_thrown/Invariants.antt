use Rattle.std.proofs.Common.{◌≡◌, ◌<◌, []}
use Rattle.jr_flow_faults.specs.Computed.{rows_in, table_in}
use Rattle.jr_flow_faults.specs.Reading.{completes_in, types_in}
use Rattle.jr_extract.specs.Throwing.{IsReading, thrown_below, view_of}
use Rattle.jr_extract.proofs.thrown.Reading.all_thrown.Given as goal

abbrev pub invariant-loop-at : goal.invariant-loop-at
invariant-loop-at l = record {
  none : l.self.run.rows.end < l.self.run.rows.first → l.all.items ≡ [];
  found : IsReading l.self → l.all.items ≡ thrown_below (rows_in (view_of l.self)) (table_in (view_of l.self)) (types_in (view_of l.self)) (completes_in (view_of l.self)) l.self.run l.at;
}
