use Rattle.std.proofs.Common.{arith}
use Rattle.std.proofs.lemmas.Bool.{false≢true}
use Rattle.jr_defs.specs.Referents.{entries}
use Rattle.jr_constants.proofs.Staying.{rests_next, rests_all}
use Rattle.jr_constants.proofs.constants.Constants.is_at_rest.Goals as goal

pub loop-at-init : goal.loop-at-init
loop-at-init c = λ sized d lt. absurd (omega arith)

pub loop-at-preserved : goal.loop-at-preserved
loop-at-preserved c = λ sized. rests_next c.args.under.rows.now (entries c.args.under.table.now) c.args.self.now c.loop-at.at (c.loop-at.invariant sized) (c.lacks_at.ensures sized c.if-lacks_at.false)

pub returns-then-lacks_at : goal.returns-then-lacks_at
returns-then-lacks_at c = λ sized all holds. absurd (false≢true holds)

pub returns : goal.returns
returns c = λ sized all holds. rests_all c.args.under.rows.now (entries c.args.under.table.now) c.args.self.now c.loop-at.at (c.loop-at.invariant sized) (omega arith)
