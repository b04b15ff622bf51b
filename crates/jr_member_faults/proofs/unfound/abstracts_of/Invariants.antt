use Rattle.std.proofs.Common.{◌≡◌}
use Rattle.jr_members.specs.Keys.{entries_of}
use Rattle.jr_member_faults.specs.Unfound.{abstract_entry}
use Rattle.jr_member_faults.proofs.unfound.abstracts_of.Given as goal

abbrev pub invariant-loop-row : goal.invariant-loop-row
invariant-loop-row l = l.abstracts ≡ entries_of (abstract_entry l.rows) l.row
