use Rattle.jr_assign.specs.Made.{AreMade, AreFieldsJudged}
use Rattle.jr_assign.proofs.fields.note_fields.Given as goal

abbrev pub invariant-loop-owner : goal.invariant-loop-owner
invariant-loop-owner l = AreMade l.group l.body l.statics l.built → AreFieldsJudged l.group.rows.now l.group.facts.now l.fn.verdicts.items → AreFieldsJudged l.group.rows.now l.group.facts.now l.verdicts.items
