use Rattle.std.proofs.Common.{arith}
use Rattle.jr_kept.proofs.Upward.{not_below, below_tells}
use Rattle.jr_kept.proofs.parts.is_below.Goals as goal

pub returns-then-over-at : goal.returns-then-over-at
returns-then-over-at c = not_below c.args.rows.now c.args.at c.parent_at-over.result c.parent_at-over.ensures c.if-over-at.true

pub returns : goal.returns
returns c = let less = c.if-over-at.false in let fits = c.ranges.at.fits in
    below_tells c.args.rows.now c.args.at c.parent_at-over.result c.end_at.result c.parent_at-over.ensures less (c.end_at.ensures (omega (arith, less, fits)))
