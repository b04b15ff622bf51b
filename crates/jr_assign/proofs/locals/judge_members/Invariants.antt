use Rattle.jr_assign.specs.Judged.{AreJudged}
use Rattle.jr_assign.proofs.locals.judge_members.Given as goal

abbrev pub invariant-loop-at : goal.invariant-loop-at
invariant-loop-at l = AreJudged l.known.rows.now l.known.facts.now l.known.members.now l.fn.verdicts.items → AreJudged l.known.rows.now l.known.facts.now l.known.members.now l.verdicts.items
