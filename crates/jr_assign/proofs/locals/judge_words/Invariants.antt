use Rattle.jr_assign.specs.Judged.{AreJudged}
use Rattle.jr_assign.proofs.locals.judge_words.Given as goal

abbrev pub invariant-loop-word : goal.invariant-loop-word
invariant-loop-word l = AreJudged l.known.rows.now l.known.facts.now l.known.members.now l.fn.verdicts.items → AreJudged l.known.rows.now l.known.facts.now l.known.members.now l.verdicts.items
