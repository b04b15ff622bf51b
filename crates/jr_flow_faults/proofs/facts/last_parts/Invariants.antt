use Rattle.std.proofs.Common.{◌≡◌}
use Rattle.jr_flow_faults.specs.Computed.{last_parts}
use Rattle.jr_flow_faults.proofs.facts.last_parts.Given as goal

abbrev pub invariant-loop-at : goal.invariant-loop-at
invariant-loop-at l = l.all.items ≡ last_parts l.rows l.kind l.at
