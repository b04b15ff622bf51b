use Rattle.std.proofs.Common.{◌≡◌}
use Rattle.jr_members.specs.Keys.{entries_of}
use Rattle.jr_member_faults.specs.Thrown.{thrown_entry}
use Rattle.jr_member_faults.proofs.throwing.names_of.Given as goal

abbrev pub invariant-loop-at : goal.invariant-loop-at
invariant-loop-at l = l.names ≡ entries_of (thrown_entry l.rows) l.at
