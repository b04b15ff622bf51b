use Rattle.std.proofs.Common.{◌≡◌}
use Rattle.jr_defs.specs.Referents.{entries}
use Rattle.jr_places.specs.Tabulated.{tabulated}
use Rattle.jr_assign_faults.specs.Changed.{changed_in}
use Rattle.jr_assign_faults.proofs.changed.changes_by.Given as goal

abbrev pub invariant-loop-at : goal.invariant-loop-at
invariant-loop-at l = l.all.items ≡ tabulated (changed_in l.under.rows.now (entries l.under.table.now) l.operands) l.at
