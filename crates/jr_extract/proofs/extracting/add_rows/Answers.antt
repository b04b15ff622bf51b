use Rattle.jr_tree.specs.Rows.{end}
use Rattle.jr_extract.specs.Writing.{extracted}
use Rattle.std.proofs.Common.{◌∙◌, ap, arith}
use Rattle.jr_extract.proofs.Extending.{placed_so}
use Rattle.jr_extract.proofs.Taking.{top_fits}
use Rattle.jr_extract.proofs.extracting.add_rows.Goals as goal

pub returns : goal.returns
returns c = λ ordered within lt. let few = ordered.few in let fits = top_fits c.args.marks.now c.args.unit ordered lt in
    placed_so c.args.marks.now (extracted c.args.added.now) c.args.unit c.in_ok-call.call c.end_at-behind.result c.end_at.result c.args.draft.now _ _ _ c.in_ok-method.method (c.in_ok-call.ensures.rows ordered within) c.in_ok-call.ensures.call
    c.in_ok-method.ensures.rows c.in_ok-method.ensures.placed c.in_ok-copy.ensures (c.end_at-behind.ensures (omega arith)) (c.end_at.ensures (let e = c.unit_row.ensures in omega arith) ∙ ap (end c.args.marks.now.rows.now) c.unit_row.ensures)
