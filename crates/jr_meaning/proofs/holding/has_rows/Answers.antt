use Rattle.std.proofs.Common.{sym, ◌∙◌, arith}
use Rattle.jr_meaning.proofs.Holds.{rows_none, rows_next, rows_done}
use Rattle.jr_meaning.proofs.holding.has_rows.Goals as goal

pub loop-turn-preserved : goal.loop-turn-preserved
loop-turn-preserved c = let lt = c.loop-turn-test.true in let low = c.if-at-end.false in let fits = c.ranges.end.fits in
    sym (rows_next c.args.rows.now c.loop-turn.at _ c.args.end c.args.count c.loop-turn._turn lt low (c.end_at-at.ensures (omega (arith, low, fits)))) ∙ c.loop-turn.invariant

pub returns-then-at-end : goal.returns-then-at-end
returns-then-at-end c = sym (rows_none c.args.rows.now c.loop-turn.at c.args.end c.args.count c.loop-turn._turn c.loop-turn-test.true c.if-at-end.true) ∙ c.loop-turn.invariant

pub returns : goal.returns
returns c = sym (rows_done c.args.rows.now c.loop-turn.at c.args.end c.args.count c.loop-turn._turn (omega arith)) ∙ c.loop-turn.invariant
