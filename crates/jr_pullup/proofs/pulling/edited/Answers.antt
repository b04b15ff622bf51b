use Rattle.jr_pullup.proofs.Raising.{edited_by}
use Rattle.jr_pullup.proofs.pulling.edited.Goals as goal

pub returns-clause-ok : goal.returns-clause-ok
returns-clause-ok c = λ ordered. edited_by c.args.marks.now c.args.pulled c.args.span c.args.unit c.unit_row.result _ _ _ c.unit_row.ensures (c.in_ok-edits.ensures ordered) (c.in_ok-put_text.ensures.ok ordered)
    (c.in_ok-take_text.ensures.ok ordered)
