-- Plans as the code holds them.
use Rattle.jr_runs.specs.declared.plan.Plan as declared
use Rattle.jr_runs.specs.Plans.{Plan}

abbrev pub seen_plan : declared.Plan → Plan
seen_plan x = record { items = x.items.items; starts = x.starts.items; copies = x.copies.items }
