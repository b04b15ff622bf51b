use Rattle.std.proofs.Common.{◌≡◌}
use Rattle.jr_members.specs.Keys.{signed_entry, entries_of}
use Rattle.jr_members.proofs.callables.methods_of.Given as goal

abbrev pub invariant-loop-at : goal.invariant-loop-at
invariant-loop-at l = l.found ≡ entries_of (signed_entry l.all l.signatures) l.at
