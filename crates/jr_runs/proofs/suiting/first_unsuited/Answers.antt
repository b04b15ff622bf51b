use Rattle.std.proofs.Common.{sym, ◌∙◌}
use Rattle.jr_runs.proofs.Firsts.{suits_more}
use Rattle.jr_runs.proofs.suiting.first_unsuited.Goals as goal

pub loop-number-preserved : goal.loop-number-preserved
loop-number-preserved c =
    suits_more c.index-spellings-number.result c.loop-number.invariant c.loop-number-test.true c.index-spellings-number.is (sym c.if-not-branch.false ∙ c.in_ok-suits.ensures)
