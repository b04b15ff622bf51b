use Rattle.jr_assign.specs.Made.{AreFieldsJudged}
use Rattle.jr_assign.proofs.fields.judge_bodies.Given as goal

abbrev pub invariant-loop-at : goal.invariant-loop-at
invariant-loop-at l = AreFieldsJudged l.rows l.facts l.fn.verdicts.items → AreFieldsJudged l.rows l.facts l.verdicts.items
