-- The numbers by which reasons are answered.
use Rattle.std.specs.Prelude.{ℕ}
use Rattle.jr_change.specs.declared.reason.Reason.{Reason}
use Rattle.jr_change.specs.declared.reason.Reason.TheVariants.{NoFile, NoIdentifier, InPrelude, ReachesPrelude, BadName, WrongKind, BadRange, BadSuperclass}

abbrev pub reason_number : Reason → ℕ
reason_number NoFile = 1
reason_number NoIdentifier = 2
reason_number InPrelude = 3
reason_number ReachesPrelude = 4
reason_number BadName = 5
reason_number WrongKind = 6
reason_number BadRange = 7
reason_number BadSuperclass = 8
