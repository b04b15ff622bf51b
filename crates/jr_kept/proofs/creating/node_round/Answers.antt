use Rattle.std.proofs.Common.{refl, subst, IfSome}
use Rattle.std.proofs.lemmas.Result.{err_from_is_err_and}
use Rattle.jr_kept.specs.Started.{IsRound, CreatesAt}
use Rattle.jr_kept.proofs.creating.node_round.Goals as goal

pub loop-turn-init : goal.loop-turn-init
loop-turn-init c = IsRound.itself refl

pub loop-turn-preserved : goal.loop-turn-preserved
loop-turn-preserved c = IsRound.above c.loop-turn.invariant c.parent_at-over.ensures

pub returns-in-Some-clause-creates : goal.returns-in-Some-clause-creates
returns-in-Some-clause-creates c = λ m seen. let p = c.args.old.now.marks.rows.now in let over = c.loop-turn.over in
    record { over = over; round = c.loop-turn.invariant; creates = subst (λ o. IfSome o (λ row. CreatesAt p m over)) c.in-Some.is (c.in_ok-node.ensures.creates m seen) }

pub returns-in_err-node-clause-large : goal.returns-in_err-node-clause-large
returns-in_err-node-clause-large c = λ m seen. let q = err_from_is_err_and c.from_residual.result c.from_residual.ensures.1 in rw (q.1, q.2) (c.in_err-node.ensures.large m seen)
