use Rattle.std.proofs.Common.{sym, ◌∙◌, ap, ◌-◌, ◌++◌, arith, append-nil}
use Rattle.jr_flow.proofs.Siblings.{past}
use Rattle.jr_kept.proofs.Crossing.{sibling_written}
use Rattle.jr_kept.proofs.handing.siblings.Goals as goal

pub loop-turn-preserved : goal.loop-turn-preserved
loop-turn-preserved c = sibling_written c.args.rows.now c.loop-turn.all.items c.push.new.self.items _ c.args.room c.loop-turn._turn c.loop-turn.at c.args.stop c.end_at-at.result (omega arith) (omega arith)
    (c.end_at-at.ensures (omega arith)) c.in_ok-push.ensures.items c.loop-turn.invariant

pub returns-then-at-stop : goal.returns-then-at-stop
returns-then-at-stop c = let all = c.loop-turn.all.items in
    sym (append-nil all) ∙ ap (λ xs. all ++ xs) (sym (past c.args.rows.now (c.args.room - c.loop-turn._turn) c.loop-turn.at c.args.stop (omega arith))) ∙ c.loop-turn.invariant
