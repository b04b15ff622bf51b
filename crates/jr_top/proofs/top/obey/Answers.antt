use Rattle.std.proofs.Common.{⊎_elim, Some, ap, subst, ◌∙◌, sym, [], ◌∷◌, List, ℕ, inl, inr}
use Rattle.jr_top.specs.Answers.{IsReported}
use Rattle.jr_top.specs.Crash.{StandsForEither}
use Rattle.jr_top.specs.Engine.{AsksOne, AsksAll}
use Rattle.jr_top.specs.declared.decide.Decision.TheVariants.{Answer, Refuse, Change}
use Rattle.jr_top.proofs.BatchAnswers.{heard_alone, no_input_refusal, no_input_change}
use Rattle.jr_top.proofs.Carried.{weaker}
use Rattle.jr_top.proofs.Choosing.{chosen_one, chosen_batch, chosen_change, asks_one, one_may, batch_may, may_ask}
use Rattle.jr_top.proofs.EngineAnswers.{plan_of, told_for_files, run_planned, reports_answered, reports_refused, reports_changed}
use Rattle.jr_top.proofs.Performed.{answered, refused, stays, stays_refused, reports, changed, reports_change, either_run}
use Rattle.jr_top.proofs.Settled.{settled_stands}
use Rattle.jr_commit.specs.Restoring.{MayBegin}
use Rattle.jr_commit.proofs.Beginning.{reads_begin}
use Rattle.jr_top.proofs.Starts.{begun, earlier_start}
use Rattle.jr_top.proofs.top.obey.Goals as goal

-- ---- one request

pub returns-in-Answer-clause-answer : goal.returns-in-Answer-clause-answer
returns-in-Answer-clause-answer g c words is no_batch =
    let S = g.S.Store in
    let O = g.O.Sink in
    let I = g.I.Source in
    let told = S.files c.args.store.now in
    let left = S.files c.decide.new.store in
    let kept = S.may_leave c.args.store.now in
    let outcomes = S.may_leave c.decide.new.store in
    let before = S.faults c.args.store.now in
    let after = S.faults c.decide.new.store in
    let status = c.in-Answer.status in
    let old = O.contents c.args.out.now in
    let new = O.contents c.report.new.out in
    let quiet = O.faults c.args.out.now in
    let loud = O.faults c.report.new.out in
    let heard = I.left c.args.input.now in
    ⊎_elim
    (λ alone.
    inl (reports words told left kept outcomes before after status c.report.result [] old new quiet loud c.decide.ensures.files c.decide.ensures.crash
    (answered words told before after left outcomes status c.decide.ensures.files alone)
    (stays words told before after status alone)
    c.report.ensures))
    (λ all.
    inr (reports_answered words (AsksOne words) told left kept outcomes before after (all.0 ∷ []) (asks_one words c.args.command.now all.0 told is all.1 all.2) c.decide.ensures.files c.decide.ensures.crash
    status c.report.result old new quiet loud all.3 c.report.ensures))
    (chosen_one words c.args.command.now is heard (I.faults c.args.input.now) (I.faults c.decide.new.input) told before after (Answer status) c.in-Answer.ensures.decision no_batch)

pub returns-in-Refuse-clause-answer : goal.returns-in-Refuse-clause-answer
returns-in-Refuse-clause-answer g c words is no_batch =
    let S = g.S.Store in
    let O = g.O.Sink in
    let I = g.I.Source in
    let told = S.files c.args.store.now in
    let left = S.files c.decide.new.store in
    let kept = S.may_leave c.args.store.now in
    let outcomes = S.may_leave c.decide.new.store in
    let before = S.faults c.args.store.now in
    let after = S.faults c.decide.new.store in
    let status = c.in-Refuse.status in
    let paths = c.in-Refuse.paths in
    let old = O.contents c.args.out.now in
    let new = O.contents c.report-in-Refuse.new.out in
    let quiet = O.faults c.args.out.now in
    let loud = O.faults c.report-in-Refuse.new.out in
    let shown : IsReported status paths.items c.report-in-Refuse.result old new quiet loud
    = subst (λ (ps : List (List ℕ)). IsReported status ps c.report-in-Refuse.result old new quiet loud) c.deref.ensures.value c.report-in-Refuse.ensures in
    ⊎_elim
    (λ alone.
    inl (reports words told left kept outcomes before after status c.report-in-Refuse.result paths.items old new quiet loud c.decide.ensures.files c.decide.ensures.crash
    (refused words told before after left outcomes status paths c.decide.ensures.files alone)
    (stays_refused words told before after status paths alone)
    shown))
    (λ all.
    inr (reports_refused words (AsksOne words) told left kept outcomes before after (all.0 ∷ []) (asks_one words c.args.command.now all.0 told is all.1 all.2) c.decide.ensures.files c.decide.ensures.crash
    status c.report-in-Refuse.result paths old new quiet loud all.3 shown))
    (chosen_one words c.args.command.now is (I.left c.args.input.now) (I.faults c.args.input.now) (I.faults c.decide.new.input) told before after (Refuse status paths) c.in-Refuse.ensures.decision no_batch)

pub returns-in-Answer-clause-any_moment : goal.returns-in-Answer-clause-any_moment
returns-in-Answer-clause-any_moment g c words f r is told settled =
    let S = g.S.Store in
    weaker S.moment S.left_since c.args.store.now c.decide.new.store (StandsForEither words r) (S.may_leave c.args.store.now) c.decide.ensures.any_moment
    (λ image left. inl (settled_stands f r (S.may_leave c.args.store.now) settled image left))

pub returns-in-Refuse-clause-any_moment : goal.returns-in-Refuse-clause-any_moment
returns-in-Refuse-clause-any_moment g c words f r is told settled =
    let S = g.S.Store in
    weaker S.moment S.left_since c.args.store.now c.decide.new.store (StandsForEither words r) (S.may_leave c.args.store.now) c.decide.ensures.any_moment
    (λ image left. inl (settled_stands f r (S.may_leave c.args.store.now) settled image left))

pub returns-in-Change-clause-any_moment : goal.returns-in-Change-clause-any_moment
returns-in-Change-clause-any_moment g c words f r is told settled =
    let S = g.S.Store in
    let I = g.I.Source in
    let files = S.files c.args.store.now in
    let kept = S.may_leave c.args.store.now in
    let before = S.faults c.args.store.now in
    let middle = S.faults c.decide.new.store in
    let plan = c.in-Change.plan in
    ⊎_elim
    (λ asked.
    either_run S.moment S.left_since words f r kept (S.may_leave c.decide.new.store) c.args.store.now c.decide.new.store c.change.new.store asked.0 asked.1 asked.2 plan asked.3
    files told settled c.decide.ensures.crash asked.4.2 c.decide.ensures.any_moment (c.change.ensures.any_moment f (c.decide.ensures.files ∙ told)))
    (λ all.
    let made = plan_of all.0 files before middle plan all.2 in
    run_planned all.0 made.0 made.1 plan made.3 made.4 f (told_for_files files made.0 made.2 f told) words (may_ask words c.args.command.now all.0 is all.1) S.moment S.left_since r kept (S.may_leave c.decide.new.store)
    c.args.store.now c.decide.new.store c.change.new.store settled c.decide.ensures.crash c.decide.ensures.any_moment (c.change.ensures.any_moment f (c.decide.ensures.files ∙ told)))
    (chosen_change words c.args.command.now is (I.left c.args.input.now) (I.faults c.args.input.now) (I.faults c.decide.new.input) files before middle plan c.in-Change.ensures.decision)

pub returns-in-Change-clause-answer : goal.returns-in-Change-clause-answer
returns-in-Change-clause-answer g c words is no_batch =
    let S = g.S.Store in
    let O = g.O.Sink in
    let I = g.I.Source in
    let told = S.files c.args.store.now in
    let left = S.files c.change.new.store in
    let kept = S.may_leave c.args.store.now in
    let outcomes = S.may_leave c.change.new.store in
    let before = S.faults c.args.store.now in
    let middle = S.faults c.decide.new.store in
    let after = S.faults c.change.new.store in
    let plan = c.in-Change.plan in
    let done = c.change.ensures.answer in
    ⊎_elim
    (λ asked.
    inl (reports_change words told left kept outcomes before after done.0 c.change.result (O.contents c.args.out.now) (O.contents c.change.new.out) (O.faults c.args.out.now) (O.faults c.change.new.out)
    (changed words told left kept outcomes before after asked.0 asked.1 asked.2 plan asked.3 asked.4.0 asked.4.1 middle (S.files c.decide.new.store) (S.may_leave c.decide.new.store) done.0
    c.decide.ensures.files c.decide.ensures.later c.decide.ensures.crash asked.4.2
    (λ f r told_is settled image l.
    let run = returns-in-Change-clause-any_moment g c words f r is told_is settled in
    run.each image (g.met.S.Store.counts_now c.change.new.store (S.moment c.args.store.now) image run.later l))
    done.1)
    done.2))
    (λ all.
    let made = plan_of (all.0 ∷ []) told before middle plan all.3 in
    inr (reports_changed words (AsksOne words) told left kept outcomes before after (all.0 ∷ []) (asks_one words c.args.command.now all.0 told is all.1 all.2) (one_may words c.args.command.now all.0 is all.1)
    made.0 made.1 plan made.2 made.3 made.4 made.5 middle (S.files c.decide.new.store) (S.may_leave c.decide.new.store) done.0 c.change.result
    (O.contents c.args.out.now) (O.contents c.change.new.out) (O.faults c.args.out.now) (O.faults c.change.new.out) c.decide.ensures.files c.decide.ensures.later c.decide.ensures.crash
    (λ f r told_is settled image l.
    let run = returns-in-Change-clause-any_moment g c words f r is told_is settled in
    run.each image (g.met.S.Store.counts_now c.change.new.store (S.moment c.args.store.now) image run.later l))
    done.1 done.2))
    (chosen_one words c.args.command.now is (I.left c.args.input.now) (I.faults c.args.input.now) (I.faults c.decide.new.input) told before middle (Change plan) c.in-Change.ensures.decision no_batch)

-- ---- a batch

pub returns-in-Answer-clause-batch : goal.returns-in-Answer-clause-batch
returns-in-Answer-clause-batch g c words asks is_batch =
    let S = g.S.Store in
    let O = g.O.Sink in
    let I = g.I.Source in
    let told = S.files c.args.store.now in
    let left = S.files c.decide.new.store in
    let kept = S.may_leave c.args.store.now in
    let outcomes = S.may_leave c.decide.new.store in
    let before = S.faults c.args.store.now in
    let after = S.faults c.decide.new.store in
    let status = c.in-Answer.status in
    let old = O.contents c.args.out.now in
    let new = O.contents c.report.new.out in
    let fewer = O.faults c.args.out.now in
    let more = O.faults c.report.new.out in
    let heard = I.left c.args.input.now in
    let quiet = I.faults c.args.input.now in
    let loud = I.faults c.decide.new.input in
    ⊎_elim
    (λ alone. inl (heard_alone heard quiet loud told left kept outcomes status alone.0 c.report.result old new fewer more alone.1 alone.2 c.decide.ensures.files c.decide.ensures.crash c.report.ensures))
    (λ all.
    inr (reports_answered words (AsksAll words heard) told left kept outcomes before after all.0 (asks, all.1) c.decide.ensures.files c.decide.ensures.crash status c.report.result old new fewer more all.2 c.report.ensures))
    (chosen_batch c.args.command.now heard quiet loud told before after (Answer status) is_batch c.in-Answer.ensures.decision)

pub returns-in-Refuse-clause-batch : goal.returns-in-Refuse-clause-batch
returns-in-Refuse-clause-batch g c words asks is_batch =
    let S = g.S.Store in
    let O = g.O.Sink in
    let I = g.I.Source in
    let told = S.files c.args.store.now in
    let left = S.files c.decide.new.store in
    let kept = S.may_leave c.args.store.now in
    let outcomes = S.may_leave c.decide.new.store in
    let before = S.faults c.args.store.now in
    let after = S.faults c.decide.new.store in
    let status = c.in-Refuse.status in
    let paths = c.in-Refuse.paths in
    let old = O.contents c.args.out.now in
    let new = O.contents c.report-in-Refuse.new.out in
    let fewer = O.faults c.args.out.now in
    let more = O.faults c.report-in-Refuse.new.out in
    let heard = I.left c.args.input.now in
    let quiet = I.faults c.args.input.now in
    let loud = I.faults c.decide.new.input in
    let shown : IsReported status paths.items c.report-in-Refuse.result old new fewer more
    = subst (λ (ps : List (List ℕ)). IsReported status ps c.report-in-Refuse.result old new fewer more) c.deref.ensures.value c.report-in-Refuse.ensures in
    let all = no_input_refusal heard quiet loud told before after status paths (chosen_batch c.args.command.now heard quiet loud told before after (Refuse status paths) is_batch c.in-Refuse.ensures.decision) in
    inr (reports_refused words (AsksAll words heard) told left kept outcomes before after all.0 (asks, all.1) c.decide.ensures.files c.decide.ensures.crash status c.report-in-Refuse.result paths old new fewer more all.2 shown)

pub returns-in-Change-clause-batch : goal.returns-in-Change-clause-batch
returns-in-Change-clause-batch g c words asks is_batch =
    let S = g.S.Store in
    let O = g.O.Sink in
    let I = g.I.Source in
    let told = S.files c.args.store.now in
    let left = S.files c.change.new.store in
    let kept = S.may_leave c.args.store.now in
    let outcomes = S.may_leave c.change.new.store in
    let before = S.faults c.args.store.now in
    let middle = S.faults c.decide.new.store in
    let after = S.faults c.change.new.store in
    let plan = c.in-Change.plan in
    let done = c.change.ensures.answer in
    let heard = I.left c.args.input.now in
    let quiet = I.faults c.args.input.now in
    let loud = I.faults c.decide.new.input in
    let all = no_input_change heard quiet loud told before middle plan (chosen_batch c.args.command.now heard quiet loud told before middle (Change plan) is_batch c.in-Change.ensures.decision) in
    let made = plan_of all.0 told before middle plan all.2 in
    inr (reports_changed words (AsksAll words heard) told left kept outcomes before after all.0 (asks, all.1) (batch_may words all.0 asks)
    made.0 made.1 plan made.2 made.3 made.4 made.5 middle (S.files c.decide.new.store) (S.may_leave c.decide.new.store) done.0 c.change.result
    (O.contents c.args.out.now) (O.contents c.change.new.out) (O.faults c.args.out.now) (O.faults c.change.new.out) c.decide.ensures.files c.decide.ensures.later c.decide.ensures.crash
    (λ f r told_is settled image l.
    let run = returns-in-Change-clause-any_moment g c words f r (asks ∙ sym (ap Some is_batch)) told_is settled in
    run.each image (g.met.S.Store.counts_now c.change.new.store (S.moment c.args.store.now) image run.later l))
    done.1 done.2)

-- ---- the next call

pub returns-in-Answer-clause-next : goal.returns-in-Answer-clause-next
returns-in-Answer-clause-next g c begins =
    let S = g.S.Store in
    let s = c.decide.new.store in
    begun (S.faults c.args.store.now) (S.faults s) (MayBegin (S.files s) (S.may_leave s))
    (reads_begin (S.files c.args.store.now) (S.files s) (S.may_leave c.args.store.now) (S.may_leave s) c.decide.ensures.files c.decide.ensures.crash begins) c.report.result

pub returns-in-Refuse-clause-next : goal.returns-in-Refuse-clause-next
returns-in-Refuse-clause-next g c begins =
    let S = g.S.Store in
    let s = c.decide.new.store in
    begun (S.faults c.args.store.now) (S.faults s) (MayBegin (S.files s) (S.may_leave s))
    (reads_begin (S.files c.args.store.now) (S.files s) (S.may_leave c.args.store.now) (S.may_leave s) c.decide.ensures.files c.decide.ensures.crash begins) c.report-in-Refuse.result

pub returns-in-Change-clause-next : goal.returns-in-Change-clause-next
returns-in-Change-clause-next g c begins =
    let S = g.S.Store in
    let s = c.decide.new.store in
    let e = c.change.new.store in
    earlier_start (S.faults c.args.store.now) (S.faults s) (S.faults e) (MayBegin (S.files e) (S.may_leave e)) c.change.result c.decide.ensures.later
    (c.change.ensures.next (reads_begin (S.files c.args.store.now) (S.files s) (S.may_leave c.args.store.now) (S.may_leave s) c.decide.ensures.files c.decide.ensures.crash begins))
