use Rattle.std.proofs.Common.{sym, ◌∙◌, arith}
use Rattle.jr_flow_defs.specs.Acts.{is_loop}
use Rattle.jr_flow.proofs.Around.{around_next, around_found, around_ends, around_none}
use Rattle.jr_flow.proofs.jumps.innermost_loop.Goals as goal

pub loop-turn-preserved : goal.loop-turn-preserved
loop-turn-preserved c = around_next c.args.rows.now is_loop _ c.args.at c.loop-turn._turn c.loop-turn.here c.parent_at-over.result (omega arith) c.parent_at-over.ensures (sym c.is_loop.ensures ∙ c.if-is_loop.false) c.loop-turn.invariant

pub returns-then-is_loop : goal.returns-then-is_loop
returns-then-is_loop c = around_found c.args.rows.now is_loop _ c.args.at c.loop-turn._turn c.loop-turn.here c.parent_at-over.result (omega arith) c.parent_at-over.ensures (sym c.is_loop.ensures ∙ c.if-is_loop.true) c.loop-turn.invariant

pub returns-then-over-here : goal.returns-then-over-here
returns-then-over-here c = around_ends c.args.rows.now is_loop _ _ c.loop-turn.here c.parent_at-over.result c.parent_at-over.ensures (sym c.is_loop.ensures ∙ c.if-is_loop.false) c.if-over-here.true c.loop-turn.invariant

pub returns : goal.returns
returns c = around_none c.args.rows.now is_loop _ c.args.at c.loop-turn._turn c.loop-turn.here (omega arith) c.loop-turn.invariant
