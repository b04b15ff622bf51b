use Rattle.std.proofs.Common.{◌≡◌}
use Rattle.jr_members.specs.Keys.{entries_of}
use Rattle.jr_member_faults.specs.Redefined.{number_entry_of}
use Rattle.jr_member_faults.proofs.redefining.signed_methods.Given as goal

abbrev pub invariant-loop-row : goal.invariant-loop-row
invariant-loop-row l = l.signed ≡ entries_of (number_entry_of l.world) l.row
