use Rattle.std.proofs.Common.{◌≡◌}
use Rattle.jr_defs.specs.Referents.{entries}
use Rattle.jr_supers.specs.Direct.{superclass_list}
use Rattle.jr_supers.proofs.supers.superclasses_under.Given as goal

abbrev pub invariant-loop-at : goal.invariant-loop-at
invariant-loop-at l = l.all.items ≡ superclass_list l.rows (entries l.table) l.object l.at
