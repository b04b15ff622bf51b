use Rattle.std.proofs.Common.{◌≡◌}
use Rattle.jr_assign.specs.Judged.{AreJudged}
use Rattle.jr_assign.specs.Initialized.{are_linked}
use Rattle.jr_assign.proofs.scope.Reads.judge.Given as goal

abbrev pub invariant-loop-at : goal.invariant-loop-at
invariant-loop-at l = l.self.are_linked ≡ are_linked l.self.rows.now → AreJudged l.self.rows.now l.self.facts.now l.self.members.now l.fn.verdicts.items → AreJudged l.self.rows.now l.self.facts.now l.self.members.now l.verdicts.items
