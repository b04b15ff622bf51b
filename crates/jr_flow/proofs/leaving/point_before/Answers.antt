use Rattle.std.proofs.Common.{◌∙◌, sym, ap}
use Rattle.jr_flow_defs.specs.Edges.{act_point}
use Rattle.jr_flow.proofs.Departing.{before_point, row_near}
use Rattle.jr_flow.proofs.leaving.point_before.Goals as goal

pub returns-then-is_entry : goal.returns-then-is_entry
returns-then-is_entry c = λ p m coded from to. before_point p m c.args.code.now.body c.args.row c.args.act _ (sym c.is_entry.ensures ∙ c.if-is_entry.true)

pub returns : goal.returns
returns c = λ p m coded from to. c.point_of.ensures ∙ ap (act_point c.args.row) (c.act.ensures (row_near p m c.args.code.now c.args.row coded to) ∙ coded.table.acts_are c.args.row c.args.act from to)
    ∙ before_point p m c.args.code.now.body c.args.row c.args.act _ (sym c.is_entry.ensures ∙ c.if-is_entry.false)
