use Rattle.std.proofs.Common.{arith}
use Rattle.jr_flow_faults.specs.Computed.{rows_in, table_in}
use Rattle.jr_flow_faults.specs.Reading.{completes_in}
use Rattle.jr_extract.specs.Throwing.{view_of}
use Rattle.jr_extract.proofs.Throws.{ascending_start, ascending_step, ended_out, found_out, stopped_out}
use Rattle.jr_extract.proofs.thrown.Reading.comes_out.Goals as goal

pub loop-turn-init : goal.loop-turn-init
loop-turn-init c = λ reading inside. let view = view_of c.args.self.now in ascending_start (rows_in view) (table_in view) (completes_in view) c.args.self.now.run c.args.class c.args.at inside

pub loop-turn-preserved : goal.loop-turn-preserved
loop-turn-preserved c = λ reading inside. let view = view_of c.args.self.now in ascending_step (rows_in view) (table_in view) (completes_in view) c.args.self.now.run reading.traced.view.local.tree c.args.class c.args.at c.loop-turn.here c.loop-turn._turn
    _ _ c.in_ok-goes.goes c.parent_at-over.ensures c.holds.ensures c.if-not-holds.false (c.in_ok-goes.ensures reading.traced) c.if-not-goes.false (c.loop-turn.invariant reading inside)

pub returns-then-not-holds : goal.returns-then-not-holds
returns-then-not-holds c = λ reading inside. let view = view_of c.args.self.now in found_out (rows_in view) (table_in view) (completes_in view) c.args.self.now.run reading.traced.view.above.well.headed reading.traced.view.local c.args.class c.args.at
    c.loop-turn.here c.loop-turn._turn (c.loop-turn.invariant reading inside) _ _ c.parent_at-over.ensures c.holds.ensures c.if-not-holds.true

pub returns-then-not-goes : goal.returns-then-not-goes
returns-then-not-goes c = λ reading inside. let view = view_of c.args.self.now in stopped_out (rows_in view) (table_in view) (completes_in view) c.args.self.now.run reading.traced.view.above.well.headed reading.traced.view.local c.args.class c.args.at
    c.loop-turn.here c.loop-turn._turn (c.loop-turn.invariant reading inside) _ _ c.in_ok-goes.goes c.parent_at-over.ensures c.holds.ensures c.if-not-holds.false (c.in_ok-goes.ensures reading.traced) c.if-not-goes.true

pub returns : goal.returns
returns c = λ reading inside. let view = view_of c.args.self.now in ended_out (rows_in view) (table_in view) (completes_in view) c.args.self.now.run reading.traced.view.above.well.headed reading.traced.view.local c.args.class c.args.at
    c.loop-turn.here c.loop-turn._turn (c.loop-turn.invariant reading inside) (omega arith)
