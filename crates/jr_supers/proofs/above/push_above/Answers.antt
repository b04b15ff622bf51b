use Rattle.std.proofs.Common.{◌+◌, ◌-◌, arith}
use Rattle.jr_supers.proofs.Walking.{listed_more}
use Rattle.jr_supers.proofs.above.push_above.Goals as goal

pub loop-turn-preserved : goal.loop-turn-preserved
loop-turn-preserved c = listed_more (c.turns_from-turns.result - (c.loop-turn._turn + 1)) c.in-Some.here _ _ c.loop-turn.invariant c.in-Some.is (omega arith) c.in_ok-push_uppers-in-Some.ensures c.open_up-up.ensures
