use Rattle.std.proofs.Common.{◌≡◌}
use Rattle.jr_defs.specs.Referents.{entries}
use Rattle.jr_supers.specs.Direct.{super_entries}
use Rattle.jr_supers.proofs.supers.supers_under.Given as goal

abbrev pub invariant-loop-at : goal.invariant-loop-at
invariant-loop-at l = l.supers ≡ super_entries l.rows (entries l.table) l.object l.at
