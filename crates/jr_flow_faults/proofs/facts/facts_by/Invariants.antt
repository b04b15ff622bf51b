use Rattle.std.proofs.Common.{◌≡◌, length}
use Rattle.jr_flow_faults.specs.Computed.{rows_in, table_in, constants_in, facts_by}
use Rattle.jr_flow_faults.proofs.facts.facts_by.Given as goal

abbrev pub invariant-loop-at : goal.invariant-loop-at
invariant-loop-at l = l.count ≡ length (rows_in l.view) → l.facts.items ≡ facts_by (rows_in l.view) (table_in l.view) (constants_in l.view) l.told.targets.now l.told.lasts.now l.told.defaults.now l.at
