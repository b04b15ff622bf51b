use Rattle.jr_assign.specs.Judged.{IsConfirmed, AreJudged}
use Rattle.jr_assign.proofs.course.Course.judge_all.Given as goal

abbrev pub invariant-loop-inside : goal.invariant-loop-inside
invariant-loop-inside l = IsConfirmed l.self l.start l.round.owners.now → AreJudged l.self.rows.now l.self.facts.now l.round.members.now l.fn.verdicts.items → AreJudged l.self.rows.now l.self.facts.now l.round.members.now l.verdicts.items
