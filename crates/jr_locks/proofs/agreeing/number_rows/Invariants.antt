use Rattle.std.proofs.Common.{◌≡◌}
use Rattle.jr_locks.specs.Copying.{AreNumberedTo}
use Rattle.jr_locks.proofs.agreeing.number_rows.Given as goal

abbrev pub invariant-loop-naming : goal.invariant-loop-naming
invariant-loop-naming l = record { numbered : AreNumberedTo l.namings l.old l.numbers l.naming-index; number : l.number ≡ l.naming-index }
