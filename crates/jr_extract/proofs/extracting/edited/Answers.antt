use Rattle.jr_extract.specs.Writing.{extracted}
use Rattle.jr_extract.proofs.Extending.{edited_by}
use Rattle.jr_extract.proofs.extracting.edited.Goals as goal

pub returns-clause-ok : goal.returns-clause-ok
returns-clause-ok c = λ ordered. edited_by c.args.marks.now (extracted c.args.added.now) c.args.unit c.unit_row.result _ _ _ c.unit_row.ensures (c.in_ok-edits.ensures ordered) (c.in_ok-edit_run.ensures.ok ordered) (c.in_ok-edit_member.ensures.ok ordered)
