use Rattle.std.proofs.Common.{◌≡◌, ◌-◌, ◌+◌, ◌∙◌, sym, arith}
use Rattle.jr_members.proofs.Trees.{seek_next}
use Rattle.jr_members.proofs.nearest.seek.Goals as goal

pub loop-turn-preserved : goal.loop-turn-preserved
loop-turn-preserved c = seek_next c.args.nodes.now (c.args.levels - c.loop-turn._turn) (c.args.levels - (c.loop-turn._turn + 1)) (omega (arith, c.loop-turn-test.true)) c.args.name c.loop-turn.bits c.loop-turn.here c.in-Some.node _
    (sym c.in-Some.ensures) c.if-node-name.false c.below-here.ensures ∙ c.loop-turn.invariant
