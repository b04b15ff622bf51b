use Rattle.jr_extract.specs.Writing.{extracted}
use Rattle.jr_extract.proofs.Extending.{edited_so}
use Rattle.jr_extract.proofs.extracting.add_edited.Goals as goal

pub returns-clause-ok : goal.returns-clause-ok
returns-clause-ok c = λ ordered within. edited_so c.args.marks.now (extracted c.args.added.now) c.args.unit _ _ c.args.draft.now _ _ c.in_ok-path_of.ensures.copy (c.in_ok-edits.ensures.ok ordered) c.in_ok-add.ensures (c.in_ok-placed.ensures ordered within c.in_ok-path_of.ensures.there)
