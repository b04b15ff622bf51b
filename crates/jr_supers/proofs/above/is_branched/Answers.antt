use Rattle.std.proofs.Common.{◌∙◌, sym, ◌+◌, ◌-◌, arith}
use Rattle.jr_supers.proofs.Walking.{branched_more}
use Rattle.jr_supers.proofs.above.is_branched.Goals as goal

pub loop-turn-preserved : goal.loop-turn-preserved
loop-turn-preserved c = branched_more (c.args.low.depth + 1 - (c.loop-turn._turn + 1)) c.in-Some.here _ c.loop-turn.invariant c.in-Some.is (omega arith) (sym c.if-has.false ∙ c.has.ensures) c.branching_above-branching.ensures
