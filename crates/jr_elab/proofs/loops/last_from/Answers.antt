use Rattle.std.proofs.Common.{◌^◌}
use Rattle.jr_codes.specs.Reads.{facts}
use Rattle.jr_elab.proofs.Looped.{last_more, last_found, last_end}
use Rattle.jr_elab.proofs.loops.last_from.Goals as goal

pub loop-turn-preserved : goal.loop-turn-preserved
loop-turn-preserved c = last_more (facts c.args.source.now) _ _ _ _ _ (2 ^ 32) c.loop-turn.invariant c.loop-turn.auto._turn c.loop-turn-test.true c.ranges.end.fits c.end-next.ensures c.if-next-end.false

pub returns-then-next-end : goal.returns-then-next-end
returns-then-next-end c = last_found (facts c.args.source.now) _ _ _ _ _ (2 ^ 32) c.loop-turn.invariant c.loop-turn.auto._turn c.loop-turn-test.true c.ranges.end.fits c.end-next.ensures c.if-next-end.true

pub returns : goal.returns
returns c = last_end (facts c.args.source.now) _ _ _ _ c.loop-turn.invariant c.loop-turn-test.false
