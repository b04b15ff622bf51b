use Rattle.std.proofs.Common.{◌∙◌, ap}
use Rattle.jr_defs.specs.Referents.{entries}
use Rattle.jr_runs.specs.Marks.{seen}
use Rattle.jr_runs.specs.Planned.{seen_plan}
use Rattle.jr_runs.specs.Plans.{with_run}
use Rattle.jr_runs.proofs.Runs.{one_run}
use Rattle.jr_runs.proofs.plan.Plan.of.Goals as goal

pub loop-row-preserved : goal.loop-row-preserved
loop-row-preserved c =
    one_run c.args.rows.now (entries c.args.table.now) c.args.spellings.now (seen c.args.marks.now) c.in_ok-back.back.items c.loop-row.row (seen_plan c.loop-row.plan) (seen_plan c.push_row.new.self) c.loop-row.invariant
    (c.in_ok-push_row.ensures ∙ ap (λ b. with_run c.args.rows.now (entries c.args.table.now) c.args.spellings.now (seen c.args.marks.now) b c.loop-row.row (seen_plan c.loop-row.plan)) c.deref.ensures.value)
