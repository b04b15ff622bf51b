use Rattle.std.proofs.Common.{arith}
use Rattle.jr_bind.proofs.ranking.are_below.Goals as goal

pub returns-clause-below : goal.returns-clause-below
returns-clause-below c = λ are k s level inside e is. c.loop-at.invariant are k s level inside.from (let before = inside.before in let last = c.end_at-at-end.ensures in let past = c.loop-at-test.false in let row = c.if-name-eq4294967295.false in omega arith) e is
