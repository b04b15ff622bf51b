use Rattle.std.proofs.Common.{◌∙◌, ap, inl}
use Rattle.std.specs.Prelude.{Err}
use Rattle.jr_top.specs.Crash.{StandsForEither}
use Rattle.jr_top.proofs.Carried.{weaker}
use Rattle.jr_top.proofs.Settled.{settled_stands}
use Rattle.jr_top.proofs.UndoAnswers.{run_back, reports_refused, reports_changed}
use Rattle.jr_commit.specs.Restoring.{MayBegin}
use Rattle.jr_commit.proofs.Beginning.{reads_begin}
use Rattle.jr_top.proofs.Starts.{begun, earlier_start}
use Rattle.jr_top.proofs.top.take_back.Goals as goal

pub returns-in-Ok-clause-any_moment : goal.returns-in-Ok-clause-any_moment
returns-in-Ok-clause-any_moment g c words f r asks told settled =
    let S = g.S.Store in
    let made = c.in-Ok.ensures.plan in
    run_back made.0 c.in-Ok.plan made.1 f (made.2 f told) S.moment S.left_since words r (S.may_leave c.args.store.now) (S.may_leave c.plan_undo.new.store) c.args.store.now c.plan_undo.new.store c.change.new.store asks settled
    c.plan_undo.ensures.crash c.plan_undo.ensures.any_moment (c.change.ensures.any_moment f (c.plan_undo.ensures.told ∙ told))

pub returns-in-Ok-clause-answer : goal.returns-in-Ok-clause-answer
returns-in-Ok-clause-answer g c words asks =
    let S = g.S.Store in
    let O = g.O.Sink in
    let made = c.in-Ok.ensures.plan in
    let done = c.change.ensures.answer in
    reports_changed words asks (S.files c.args.store.now) (S.files c.change.new.store) (S.may_leave c.args.store.now) (S.may_leave c.change.new.store) (S.faults c.args.store.now) (S.faults c.change.new.store)
    made.0 c.in-Ok.plan made.1 made.2 (S.faults c.plan_undo.new.store) (S.files c.plan_undo.new.store) (S.may_leave c.plan_undo.new.store) done.0 c.change.result
    (O.contents c.args.out.now) (O.contents c.change.new.out) (O.faults c.args.out.now) (O.faults c.change.new.out)
    c.plan_undo.ensures.told c.plan_undo.ensures.later c.plan_undo.ensures.crash
    (λ f r told_is settled image l.
    let run = returns-in-Ok-clause-any_moment g c words f r asks told_is settled in
    run.each image (g.met.S.Store.counts_now c.change.new.store (S.moment c.args.store.now) image run.later l))
    done.1 done.2

pub returns-in-Err-clause-any_moment : goal.returns-in-Err-clause-any_moment
returns-in-Err-clause-any_moment g c words f r asks told settled =
    let S = g.S.Store in
    weaker S.moment S.left_since c.args.store.now c.plan_undo.new.store (StandsForEither words r) (S.may_leave c.args.store.now) c.plan_undo.ensures.any_moment
    (λ image left. inl (settled_stands f r (S.may_leave c.args.store.now) settled image left))

pub returns-in-Err-clause-answer : goal.returns-in-Err-clause-answer
returns-in-Err-clause-answer g c words asks =
    let S = g.S.Store in
    let O = g.O.Sink in
    reports_refused words asks (S.files c.args.store.now) (S.files c.plan_undo.new.store) (S.may_leave c.args.store.now) (S.may_leave c.plan_undo.new.store) (S.faults c.args.store.now) (S.faults c.plan_undo.new.store)
    c.plan_undo.ensures.told c.plan_undo.ensures.crash c.in-Err.fault (λ is. c.in-Err.ensures.failed (ap Err is)) c.in-Err.ensures.fault
    c.refusal.result c.report.result (O.contents c.args.out.now) (O.contents c.report.new.out) (O.faults c.args.out.now) (O.faults c.report.new.out) c.refusal.ensures c.report.ensures

pub returns-in-Err-clause-next : goal.returns-in-Err-clause-next
returns-in-Err-clause-next g c begins =
    let S = g.S.Store in
    let s = c.plan_undo.new.store in
    begun (S.faults c.args.store.now) (S.faults s) (MayBegin (S.files s) (S.may_leave s))
    (reads_begin (S.files c.args.store.now) (S.files s) (S.may_leave c.args.store.now) (S.may_leave s) c.plan_undo.ensures.told c.plan_undo.ensures.crash begins) c.report.result

pub returns-in-Ok-clause-next : goal.returns-in-Ok-clause-next
returns-in-Ok-clause-next g c begins =
    let S = g.S.Store in
    let s = c.plan_undo.new.store in
    let e = c.change.new.store in
    earlier_start (S.faults c.args.store.now) (S.faults s) (S.faults e) (MayBegin (S.files e) (S.may_leave e)) c.change.result c.plan_undo.ensures.later
    (c.change.ensures.next (reads_begin (S.files c.args.store.now) (S.files s) (S.may_leave c.args.store.now) (S.may_leave s) c.plan_undo.ensures.told c.plan_undo.ensures.crash begins))
