use Rattle.jr_bind.proofs.Keeping.{rows_start, rows_next}
use Rattle.jr_bind.proofs.filling.Filling.fill.Goals as goal

pub loop-at-init : goal.loop-at-init
loop-at-init c = rows_start c.args.stages.now c.args.stage c.args.self.now

pub loop-at-preserved : goal.loop-at-preserved
loop-at-preserved c = rows_next c.args.stages.now c.args.stage _ _ _ _ c.loop-at.invariant c.in_ok-fill_row.ensures.fills

pub returns : goal.returns
returns c = c.loop-at.invariant
