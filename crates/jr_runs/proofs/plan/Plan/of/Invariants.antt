use Rattle.std.proofs.Common.{◌≡◌}
use Rattle.jr_defs.specs.Referents.{entries}
use Rattle.jr_runs.specs.Marks.{seen}
use Rattle.jr_runs.specs.Planned.{seen_plan}
use Rattle.jr_runs.specs.Plans.{runs_to}
use Rattle.jr_runs.proofs.plan.Plan.of.Given as goal

abbrev pub invariant-loop-row : goal.invariant-loop-row
invariant-loop-row l = seen_plan l.plan ≡ runs_to l.rows (entries l.table) l.spellings (seen l.marks) l.back.items l.row
