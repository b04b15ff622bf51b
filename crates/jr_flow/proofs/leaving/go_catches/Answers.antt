use Rattle.std.proofs.Common.{arith}
use Rattle.jr_flow.specs.Places.{list_seen, state_seen, ways_seen}
use Rattle.jr_flow.proofs.Departing.{catch_written, catch_past, catch_none}
use Rattle.jr_flow.proofs.leaving.go_catches.Goals as goal

pub loop-turn-preserved : goal.loop-turn-preserved
loop-turn-preserved c = λ lists. catch_written c.args.rows.now (list_seen lists c.args.list) (ways_seen lists c.loop-turn.out.items) (ways_seen lists c.go_if.new.out.items) _ c.args.room c.loop-turn._turn c.loop-turn.part c.args.stop c.end_at-part.result
    c.is_catch.result (state_seen lists c.before-in-loop-turn.result) (omega arith) (omega arith) (c.end_at-part.ensures (omega arith)) c.is_catch.ensures (c.before-in-loop-turn.ensures lists) (c.in_ok-go_if.ensures lists) (c.loop-turn.invariant lists)

pub returns-then-part-stop : goal.returns-then-part-stop
returns-then-part-stop c = λ lists. catch_past c.args.rows.now (list_seen lists c.args.list) (ways_seen lists c.loop-turn.out.items) _ _ c.loop-turn.part c.args.stop (omega arith) (c.loop-turn.invariant lists)

pub returns : goal.returns
returns c = λ lists. catch_none c.args.rows.now (list_seen lists c.args.list) (ways_seen lists c.loop-turn.out.items) _ c.args.room c.loop-turn._turn c.loop-turn.part c.args.stop (omega arith) (c.loop-turn.invariant lists)
