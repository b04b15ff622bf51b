use Rattle.std.proofs.Common.{◌≡◌, ◌<◌, ◌^◌, length}
use Rattle.jr_defs.specs.Referents.{entries}
use Rattle.jr_places.specs.Tabulated.{tabulated}
use Rattle.jr_assign_faults.specs.Known.{fact_by}
use Rattle.jr_assign_faults.proofs.facts.facts_by.Given as goal

abbrev pub invariant-loop-at : goal.invariant-loop-at
invariant-loop-at l = length l.under.rows.now < 2 ^ 32 → l.all.items ≡ tabulated (fact_by l.under.rows.now (entries l.under.table.now) l.told.flow.now l.told.members.now l.told.operands.now l.told.lasts.now) l.at
