use Rattle.std.proofs.Common.{arith}
use Rattle.jr_draft.proofs.Building.{texts_more}
use Rattle.jr_draft.proofs.draft.Draft.keep_texts.Goals as goal

pub loop-unit-preserved : goal.loop-unit-preserved
loop-unit-preserved c = λ empty. texts_more c.args.marks.now c.loop-unit.unit _ _ (omega arith) (c.loop-unit.invariant empty) c.in_ok-keep_text.ensures
