use Rattle.std.proofs.Common.{sym, arith, ◌-◌}
use Rattle.jr_assign.proofs.Walking.{under_way, run_more, run_ends, fills_plain, fills_for}
use Rattle.jr_assign.proofs.run.+walk.Goals as goal

pub fill_parts-returns-in-None : goal.fill_parts-returns-in-None
fill_parts-returns-in-None t c = fills_plain c.args.frame _ _ c.args.at c.args.room _ (sym c.in-None.ensures) c.end_of-end.ensures.is c.run_on.ensures

pub fill_parts-returns-else-parts-body : goal.fill_parts-returns-else-parts-body
fill_parts-returns-else-parts-body t c = fills_for c.args.frame _ _ _ _ c.args.at c.args.room _ c.in-Some.parts (sym c.in-Some.ensures) c.end_of-end.ensures.is c.run_on-in-Some.ensures c.run_on-in-Some-2.ensures c.run_on-in-Some-3.ensures

pub run_on-loop-turn-init : goal.run_on-loop-turn-init
run_on-loop-turn-init t c = λ start b n run. under_way c.args.frame start b _ n c.args.from c.args.to c.args.room run

pub run_on-returns-then-at-to : goal.run_on-returns-then-at-to
run_on-returns-then-at-to t c = λ start b n run. run_ends c.args.frame start b _ _ n c.args.from c.args.to c.loop-turn.at c.loop-turn._turn (c.loop-turn.invariant start b n run) (omega arith)

pub run_on-loop-turn-preserved : goal.run_on-loop-turn-preserved
run_on-loop-turn-preserved t c = λ start b n run. run_more c.args.frame start b _ _ _ _ _ n c.args.from c.args.to c.args.room (c.args.room - 1) c.loop-turn.at c.loop-turn._turn run (c.loop-turn.invariant start b n run) (omega arith) (omega arith)
    c.enter.ensures c.fill_parts.ensures c.leave.ensures _ c.end_of-at.ensures.is

pub run_on-returns : goal.run_on-returns
run_on-returns t c = λ start b n run. let h = c.loop-turn.invariant start b n run in let turns = h.turns in let le = run.le in run_ends c.args.frame start b _ _ n c.args.from c.args.to c.loop-turn.at c.loop-turn._turn h (omega arith)
