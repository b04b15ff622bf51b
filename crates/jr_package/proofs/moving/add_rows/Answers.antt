use Rattle.std.proofs.Common.{arith}
use Rattle.jr_package.proofs.Steps.{rows_all}
use Rattle.jr_package.proofs.moving.add_rows.Goals as goal

pub returns : goal.returns
returns c = λ fits all. rows_all c.args.marks.now.rows.now c.args.to.now c.args.unit c.loop-at.from c.args.first c.args.imports.now c.loop-at.at-index _ c.args.draft.now _ (omega arith) (c.loop-at.invariant all) (c.in_ok-add_end.ensures fits)
