use Rattle.std.proofs.Common.{◌≡◌, subst, arith, length}
use Rattle.jr_flow.specs.Stated.{AreNoted}
use Rattle.std.proofs.lemmas.Result.{err_from_is_err_and}
use Rattle.jr_flow.proofs.states.States.note_all.Goals as goal

pub loop-nth-init : goal.loop-nth-init
loop-nth-init c = λ m before groups coded noted reached. noted

pub loop-nth-preserved : goal.loop-nth-preserved
loop-nth-preserved c = λ m before groups coded noted reached. c.in_ok-note_at.ensures.done m before groups coded (omega arith) (c.loop-nth.invariant m before groups coded noted reached) reached

pub returns-clause-done : goal.returns-clause-done
returns-clause-done c = λ m before groups coded noted reached. let all : c.loop-nth.nth ≡ length c.args.ways.now = omega arith in
    subst (λ k. AreNoted c.args.rows.now m c.args.code.now.body before c.loop-nth.self groups c.args.ways.now k) all (c.loop-nth.invariant m before groups coded noted reached)

pub returns-in_err-note_at-clause-large : goal.returns-in_err-note_at-clause-large
returns-in_err-note_at-clause-large c = λ m before groups coded noted reached. let p = err_from_is_err_and c.from_residual.result c.from_residual.ensures.1 in rw (p.1, p.2) (c.in_err-note_at.ensures.large m before groups coded (omega arith) (c.loop-nth.invariant m before groups coded noted reached) reached)
