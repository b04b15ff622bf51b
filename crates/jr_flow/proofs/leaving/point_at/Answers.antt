use Rattle.std.proofs.Common.{◌∙◌, sym, ap}
use Rattle.jr_flow_defs.specs.Edges.{point_by}
use Rattle.jr_flow.specs.Places.{moment_seen}
use Rattle.jr_flow.proofs.leaving.point_at.Goals as goal

pub returns-in-Before : goal.returns-in-Before
returns-in-Before c = λ p m coded from to. c.point_before.ensures p m coded from to ∙ ap (λ x. point_by (moment_seen x) p m c.args.code.now.body c.args.at.row) (sym c.in-Before.is)

pub returns-in-Completed : goal.returns-in-Completed
returns-in-Completed c = λ p m coded from to. c.point_behind.ensures p m ∙ ap (λ x. point_by (moment_seen x) p m c.args.code.now.body c.args.at.row) (sym c.in-Completed.is)
