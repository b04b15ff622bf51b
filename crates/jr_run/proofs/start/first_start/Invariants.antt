use Rattle.std.proofs.Common.{drop}
use Rattle.jr_defs.specs.Overriding.{Has}
use Rattle.jr_supers.specs.Supers.{ListsOnce}
use Rattle.jr_run.specs.Starting.{IsReadWorld, rows_in, table_in}
use Rattle.jr_run.proofs.Started.{StartsAmong}
use Rattle.jr_run.proofs.start.first_start.Given as goal

abbrev pub invariant-loop-at : goal.invariant-loop-at
invariant-loop-at l = IsReadWorld l.world → ListsOnce l.methods (Has (rows_in l.world) (table_in l.world) l.class) → StartsAmong (rows_in l.world) (table_in l.world) l.class (drop l.at-index l.methods)
