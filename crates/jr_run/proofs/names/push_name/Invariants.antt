use Rattle.std.proofs.Common.{◌≡◌, ◌-◌, ◌++◌}
use Rattle.jr_run.specs.Names.{named}
use Rattle.jr_run.proofs.Naming.{names_back}
use Rattle.jr_run.proofs.names.push_name.Given as goal

abbrev pub invariant-loop-at : goal.invariant-loop-at
invariant-loop-at l = named l.rows l.all.items ≡ names_back l.rows l.last (l.at - l.last) ++ named l.rows l.fn.all.items
