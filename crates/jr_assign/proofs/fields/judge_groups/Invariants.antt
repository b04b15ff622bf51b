use Rattle.jr_assign.specs.Made.{AreFieldsJudged}
use Rattle.jr_assign.proofs.fields.judge_groups.Given as goal

abbrev pub invariant-loop-word : goal.invariant-loop-word
invariant-loop-word l = AreFieldsJudged l.group.rows.now l.group.facts.now l.fn.verdicts.items → AreFieldsJudged l.group.rows.now l.group.facts.now l.verdicts.items
