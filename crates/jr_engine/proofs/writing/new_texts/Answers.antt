use Rattle.std.proofs.Common.{◌∙◌, ap}
use Rattle.jr_base.specs.Files.{plain}
use Rattle.jr_bind.specs.declared.binder.Bound.{Bound}
use Rattle.jr_engine.proofs.Reading.{texts_by}
use Rattle.jr_engine.proofs.writing.new_texts.Goals as goal

pub returns-clause-are : goal.returns-clause-are
returns-clause-are c = texts_by c.args.spelled.locked.now c.args.spelled.spellings.now c.marks-marks.result c.deref-2.result.now c.in_ok-edits.edits.items c.deref-3.result.now c.as_slice.result.now
    (plain c.in_ok-texts.texts.items) c.marks-marks.ensures.made c.in_ok-edits.ensures (c.deref-2.ensures.value ∙ ap (λ (b : Bound). b.table.items) c.deref.ensures) c.deref-3.ensures.value c.as_slice.ensures
    c.in_ok-texts.ensures.files c.args.spelled.asked c.requires.read c.requires.bound
