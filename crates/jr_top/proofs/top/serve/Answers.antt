use Rattle.std.proofs.Common.{List, ℕ, Some, sym, ap, subst, ◌∙◌, inl}
use Rattle.std.proofs.lemmas.Bool.{false≢true}
use Rattle.jr_top.specs.Answers.{IsReported}
use Rattle.jr_top.specs.Checking.{IsReading}
use Rattle.jr_top.specs.Crash.{StandsForEither}
use Rattle.jr_top.proofs.Carried.{weaker}
use Rattle.jr_top.proofs.Choosing.{changing}
use Rattle.jr_top.proofs.Settled.{settled_stands}
use Rattle.jr_commit.specs.Restoring.{MayBegin}
use Rattle.jr_commit.proofs.Beginning.{reads_begin}
use Rattle.jr_top.proofs.Starts.{begun}
use Rattle.jr_top.proofs.top.serve.Goals as goal

pub returns-then-is_reading-clause-answer : goal.returns-then-is_reading-clause-answer
returns-then-is_reading-clause-answer g c words is no_batch no_reading never_undo = absurd (no_reading (c.is_reading.ensures.0 c.if-is_reading.true))

pub returns-then-is_reading-clause-batch : goal.returns-then-is_reading-clause-batch
returns-then-is_reading-clause-batch g c words asks is = absurd (subst IsReading is (c.is_reading.ensures.0 c.if-is_reading.true))

pub returns-then-is_reading-clause-undo : goal.returns-then-is_reading-clause-undo
returns-then-is_reading-clause-undo g c words asks is = absurd (subst IsReading is (c.is_reading.ensures.0 c.if-is_reading.true))

pub returns-then-is_reading-clause-reading : goal.returns-then-is_reading-clause-reading
returns-then-is_reading-clause-reading g c reads = (
  c.read_files-status.result.paths.items,
  c.read_files-status.result.status,
  c.read_files-status.ensures.answer reads,
  subst (λ (ps : List (List ℕ)). IsReported c.read_files-status.result.status ps c.report.result (g.O.Sink.contents c.args.out.now) (g.O.Sink.contents c.report.new.out) (g.O.Sink.faults c.args.out.now) (g.O.Sink.faults c.report.new.out)) c.deref.ensures.value
      c.report.ensures,
)

pub returns-then-is_reading-clause-any_moment : goal.returns-then-is_reading-clause-any_moment
returns-then-is_reading-clause-any_moment g c words f r is told settled =
    let S = g.S.Store in
    weaker S.moment S.left_since c.args.store.now c.read_files-status.new.store (StandsForEither words r) (S.may_leave c.args.store.now) c.read_files-status.ensures.any_moment
    (λ image left. inl (settled_stands f r (S.may_leave c.args.store.now) settled image left))

pub returns-then-is_reading-clause-next : goal.returns-then-is_reading-clause-next
returns-then-is_reading-clause-next g c begins =
    let S = g.S.Store in
    let s = c.read_files-status.new.store in
    begun (S.faults c.args.store.now) (S.faults s) (MayBegin (S.files s) (S.may_leave s))
    (reads_begin (S.files c.args.store.now) (S.files s) (S.may_leave c.args.store.now) (S.may_leave s) c.read_files-status.ensures.files c.read_files-status.ensures.crash begins) c.report.result

pub obey-requires : goal.obey-requires
obey-requires g c = changing c.args.command.now c.requires (λ reads. false≢true (sym c.if-is_reading.false ∙ c.is_reading.ensures.1 reads)) c.in_default.not-Undo

pub returns-in_default-clause-answer : goal.returns-in_default-clause-answer
returns-in_default-clause-answer g c words is no_batch no_reading never_undo = c.obey.ensures.answer words is no_batch

pub returns-in-Undo-clause-any_moment : goal.returns-in-Undo-clause-any_moment
returns-in-Undo-clause-any_moment g c words f r is told settled = c.take_back.ensures.any_moment words f r (is ∙ ap Some c.in-Undo.is) told settled
