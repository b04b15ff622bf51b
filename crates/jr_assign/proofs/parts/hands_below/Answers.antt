use Rattle.std.proofs.Common.{arith}
use Rattle.jr_assign.proofs.Handing.{handing_more, handing_ends}
use Rattle.jr_assign.proofs.parts.hands_below.Goals as goal

pub loop-inside-preserved : goal.loop-inside-preserved
loop-inside-preserved c = handing_more c.args.rows.now c.args.constructor c.loop-inside.inside _ _ _ c.loop-inside.invariant c.is_handing-is_here.ensures c.either-hands.ensures

pub returns : goal.returns
returns c = handing_ends c.args.rows.now c.args.constructor c.args.end c.loop-inside.inside _ (omega (arith, c.loop-inside-test.false, c.loop-inside.auto.inside-end, c.saturating_sub-inside-end.ensures)) c.loop-inside.invariant
