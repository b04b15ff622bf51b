use Rattle.std.proofs.Common.{◌≡◌}
use Rattle.jr_members.specs.Keys.{constructor_entry, entries_of}
use Rattle.jr_members.proofs.callables.constructors_of.Given as goal

abbrev pub invariant-loop-at : goal.invariant-loop-at
invariant-loop-at l = l.found ≡ entries_of (constructor_entry l.all) l.at
