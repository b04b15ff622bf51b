use Rattle.std.proofs.Common.{◌∙◌, sym, ap}
use Rattle.jr_flow_defs.specs.Edges.{point}
use Rattle.jr_flow.specs.Seen.{completion_seen}
use Rattle.jr_flow.proofs.Departing.{completed_point}
use Rattle.jr_flow.proofs.leaving.point_behind.Goals as goal

pub returns-then-is_body : goal.returns-then-is_body
returns-then-is_body c = λ p m. ap (point c.args.row) c.exit_kind.ensures ∙ completed_point p m c.args.code.now.body c.args.row (completion_seen c.args.completion) _ (sym c.is_body.ensures ∙ c.if-is_body.true)

pub returns-else-is_body : goal.returns-else-is_body
returns-else-is_body c = λ p m. completed_point p m c.args.code.now.body c.args.row (completion_seen c.args.completion) _ (sym c.is_body.ensures ∙ c.if-is_body.false)
