use Rattle.std.proofs.Common.{◌≡◌, length}
use Rattle.jr_reach.specs.Statements.{later}
use Rattle.jr_flow_faults.specs.Outwards.{guards}
use Rattle.jr_flow_faults.proofs.guards.Around.guards.Given as goal

abbrev pub invariant-loop-at : goal.invariant-loop-at
invariant-loop-at l = l.known.items ≡ guards l.self.rows.now l.self.facts.now (later (length l.self.rows.now) l.self.all.now) l.at
