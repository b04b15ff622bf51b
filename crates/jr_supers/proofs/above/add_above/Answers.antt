use Rattle.std.proofs.Common.{◌∙◌, sym, ◌+◌, ◌-◌, arith}
use Rattle.jr_supers.proofs.Walking.{added_more}
use Rattle.jr_supers.proofs.above.add_above.Goals as goal

pub loop-turn-preserved : goal.loop-turn-preserved
loop-turn-preserved c = added_more (c.turns_from-turns.result - (c.loop-turn._turn + 1)) c.in-Some.here _ _ c.loop-turn.invariant c.in-Some.is (omega arith) (sym c.if-has.false ∙ c.has.ensures)
    c.in_ok-add_uppers-in-Some.ensures c.up_at-up.ensures
