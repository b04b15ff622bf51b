use Rattle.std.proofs.Common.{◌∙◌, ap, arith}
use Rattle.jr_extract.specs.Writing.{extracted}
use Rattle.jr_extract.proofs.Extending.{called_so, count_of}
use Rattle.jr_extract.proofs.extracting.add_called.Goals as goal

pub returns-clause-rows : goal.returns-clause-rows
returns-clause-rows c = λ ordered within. let few = ordered.few in called_so c.args.marks.now (extracted c.args.added.now) c.args.unit c.end_at-behind.result c.rows_between.result c.args.draft.now _ _ _ c.in_ok-add_before.ensures (c.rows_between.ensures few within) c.in_ok-add_call.ensures c.in_ok-copy.ensures
    (c.end_at-behind.ensures (omega (arith, few, within)))

pub returns-clause-call : goal.returns-clause-call
returns-clause-call c = c.rows-call.ensures ∙ ap count_of c.in_ok-add_before.ensures
