use Rattle.jr_defs.specs.Referents.{entries}
use Rattle.jr_runs.specs.Planned.{seen_plan}
use Rattle.jr_runs.specs.Respelled.{AllStand}
use Rattle.jr_runs.proofs.compare.first_other.Given as goal

abbrev pub invariant-loop-at : goal.invariant-loop-at
invariant-loop-at l = AllStand l.rows (seen_plan l.plan) l.new_rows (entries l.new_table) l.at
