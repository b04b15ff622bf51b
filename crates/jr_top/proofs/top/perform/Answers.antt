use Rattle.std.proofs.Common.{◌≡◌, ◌∙◌, Some, [], inl, refl, sym, ap, subst, IsSome}
use Rattle.std.proofs.lemmas.Option.{same_Some, none-some}
use Rattle.jr_request.specs.declared.command.Command.TheVariants.{Batch, Undo}
use Rattle.jr_top.specs.Batches.{Hears}
use Rattle.jr_request.specs.Words.{command_of}
use Rattle.jr_top.specs.Checking.{IsReading, Checks}
use Rattle.jr_top.specs.Recovering.{NeedsFiles}
use Rattle.jr_top.proofs.BatchAnswers.{untaken, batch_plain}
use Rattle.jr_top.proofs.CheckAnswers.{reading_plain, reading_needs}
use Rattle.jr_top.proofs.PlainAnswers.{no_memory}
use Rattle.jr_top.proofs.UndoAnswers.{undo_plain, recovery_said}
use Rattle.jr_top.specs.declared.status.Status.TheVariants.{BadWords, OutOfMemory}
use Rattle.jr_top.proofs.Carried.{early, stays_here, no_recovery, demonstrated, demonstrated_stands, demonstrated_line}
use Rattle.jr_commit.specs.Restoring.{MayBegin}
use Rattle.jr_top.proofs.Starts.{begun}
use Rattle.jr_top.proofs.top.perform.Goals as goal

pub returns-in-Err-BadWords-clause-answer : goal.returns-in-Err-BadWords-clause-answer
returns-in-Err-BadWords-clause-answer g c no_batch no_reading never_undo =
    let S = g.S.Store in
    let O = g.O.Sink in
    let s = c.args.store.now in
    inl (early c.args.words.now (S.files s) (S.files s) (S.may_leave s) (S.may_leave s) (S.faults s) (S.faults s) BadWords c.report.result (O.contents c.args.out.now) (O.contents c.report.new.out) (O.faults c.args.out.now) (O.faults c.report.new.out)
    refl (λ image left. left) (refl, rw c.in-Err-BadWords.field-0-is at c.in-Err-BadWords.ensures) (λ found image stands. stands) refl c.report.ensures)

pub returns-in-Err-clause-answer : goal.returns-in-Err-clause-answer
returns-in-Err-clause-answer g c no_batch no_reading never_undo =
    let S = g.S.Store in
    let O = g.O.Sink in
    let s = c.args.store.now in
    inl (early c.args.words.now (S.files s) (S.files s) (S.may_leave s) (S.may_leave s) (S.faults s) (S.faults s) OutOfMemory c.report-in-Err.result (O.contents c.args.out.now) (O.contents c.report-in-Err.new.out) (O.faults c.args.out.now) (O.faults c.report-in-Err.new.out)
    refl (λ image left. left) (inl refl) (λ found image stands. stands) refl c.report-in-Err.ensures)

pub returns-in-Some-clause-answer : goal.returns-in-Some-clause-answer
returns-in-Some-clause-answer g c no_batch no_reading never_undo =
    let S = g.S.Store in
    let O = g.O.Sink in
    let s = c.args.store.now in
    let said = c.demonstrate.ensures in
    inl (early c.args.words.now (S.files s) (S.files s) (S.may_leave s) (S.may_leave s) (S.faults s) (S.faults s) said.0 c.demonstrate.result (O.contents c.args.out.now) (O.contents c.demonstrate.new.out) (O.faults c.args.out.now) (O.faults c.demonstrate.new.out)
    refl (λ image left. left)
    (demonstrated c.args.words.now (S.files s) (S.files s) (S.may_leave s) (S.faults s) (S.faults s) said.0 said.1 (refl, subst IsSome (sym c.in-Ok.ensures) refl, no_recovery c.args.words.now c.in-Ok.command c.in-Ok.ensures c.in-Some.ensures))
    (demonstrated_stands c.args.words.now said.0 said.1) (demonstrated_line c.args.words.now c.in-Ok.command c.in-Ok.ensures c.in-Some.ensures said.0) said.2)

pub returns-clause-answer : goal.returns-clause-answer
returns-clause-answer g c no_batch no_reading never_undo =
    c.recover_first.ensures.answer c.args.words.now c.in-Ok.ensures (λ batch. no_batch (c.in-Ok.ensures ∙ ap Some batch))
    (λ reads. no_reading (c.in-Ok.command, c.in-Ok.ensures, reads)) (λ undo. never_undo (c.in-Ok.ensures ∙ ap Some undo))

pub recover_first-requires : goal.recover_first-requires
recover_first-requires g c = c.in_default.ensures

pub returns-clause-any_moment : goal.returns-clause-any_moment
returns-clause-any_moment g c f r told restored start = c.recover_first.ensures.any_moment c.args.words.now f r c.in-Ok.ensures told restored start

pub returns-clause-untouched : goal.returns-clause-untouched
returns-clause-untouched g c never = absurd (never (c.in-Ok.command, c.in-Ok.ensures, c.in_default.ensures))

pub returns-in-Err-BadWords-clause-any_moment : goal.returns-in-Err-BadWords-clause-any_moment
returns-in-Err-BadWords-clause-any_moment g c f r told restored start = let S = g.S.Store in stays_here S.may_leave S.moment S.left_since c.args.words.now f r c.args.store.now (g.met.S.Store.only_now c.args.store.now) restored start

pub returns-in-Err-clause-any_moment : goal.returns-in-Err-clause-any_moment
returns-in-Err-clause-any_moment g c f r told restored start = let S = g.S.Store in stays_here S.may_leave S.moment S.left_since c.args.words.now f r c.args.store.now (g.met.S.Store.only_now c.args.store.now) restored start

pub returns-in-Some-clause-any_moment : goal.returns-in-Some-clause-any_moment
returns-in-Some-clause-any_moment g c f r told restored start = let S = g.S.Store in stays_here S.may_leave S.moment S.left_since c.args.words.now f r c.args.store.now (g.met.S.Store.only_now c.args.store.now) restored start

-- ---- a batch

pub returns-in-Err-BadWords-clause-batch : goal.returns-in-Err-BadWords-clause-batch
returns-in-Err-BadWords-clause-batch g c asks =
    let none = rw c.in-Err-BadWords.field-0-is at c.in-Err-BadWords.ensures in
    absurd (none-some Batch (sym none ∙ asks))

pub returns-in-Err-clause-batch : goal.returns-in-Err-clause-batch
returns-in-Err-clause-batch g c asks =
    let S = g.S.Store in
    let O = g.O.Sink in
    let I = g.I.Source in
    let s = c.args.store.now in
    let i = c.args.input.now in
    inl (no_memory c.args.words.now (batch_plain c.args.words.now asks) (S.files s) (S.files s) (S.may_leave s) (S.may_leave s) (S.faults s) (S.faults s) (Hears (I.left i) (I.faults i) (I.faults i))
    c.report-in-Err.result (O.contents c.args.out.now) (O.contents c.report-in-Err.new.out) (O.faults c.args.out.now) (O.faults c.report-in-Err.new.out) refl (λ image left. left) c.report-in-Err.ensures)

pub returns-in-Some-clause-batch : goal.returns-in-Some-clause-batch
returns-in-Some-clause-batch g c asks =
    let same : c.in-Ok.command ≡ Batch = same_Some _ _ (sym c.in-Ok.ensures ∙ asks) in
    let none : NeedsFiles c.in-Ok.command → ⊥ = c.in-Some.ensures in
    absurd (none (subst NeedsFiles (sym same) tt))

pub returns-clause-batch : goal.returns-clause-batch
returns-clause-batch g c asks = c.recover_first.ensures.batch c.args.words.now asks (same_Some _ _ (sym c.in-Ok.ensures ∙ asks))

-- ---- a command that reads the files

pub returns-in-Err-BadWords-clause-reading : goal.returns-in-Err-BadWords-clause-reading
returns-in-Err-BadWords-clause-reading g c asks =
    let none = rw c.in-Err-BadWords.field-0-is at c.in-Err-BadWords.ensures in
    absurd (none-some asks.0 (sym none ∙ asks.1))

pub returns-in-Err-clause-reading : goal.returns-in-Err-clause-reading
returns-in-Err-clause-reading g c asks =
    let S = g.S.Store in
    let O = g.O.Sink in
    let s = c.args.store.now in (
      [],
      no_memory c.args.words.now (reading_plain c.args.words.now asks []) (S.files s) (S.files s) (S.may_leave s) (S.may_leave s) (S.faults s) (S.faults s) (Checks (command_of c.args.words.now) (S.files s) [] (S.faults s) (S.faults s))
          c.report-in-Err.result (O.contents c.args.out.now) (O.contents c.report-in-Err.new.out) (O.faults c.args.out.now) (O.faults c.report-in-Err.new.out) refl (λ image left. left) c.report-in-Err.ensures,
    )

pub returns-in-Some-clause-reading : goal.returns-in-Some-clause-reading
returns-in-Some-clause-reading g c asks =
    let same : c.in-Ok.command ≡ asks.0 = same_Some _ _ (sym c.in-Ok.ensures ∙ asks.1) in
    let none : NeedsFiles c.in-Ok.command → ⊥ = c.in-Some.ensures in
    absurd (none (subst NeedsFiles (sym same) (reading_needs asks.0 asks.2)))

pub returns-clause-reading : goal.returns-clause-reading
returns-clause-reading g c asks =
    let same : asks.0 ≡ c.in-Ok.command = same_Some _ _ (sym asks.1 ∙ c.in-Ok.ensures) in
    c.recover_first.ensures.reading c.args.words.now asks c.in-Ok.ensures (subst IsReading same asks.2)

-- ---- an undo

pub returns-in-Err-BadWords-clause-undo : goal.returns-in-Err-BadWords-clause-undo
returns-in-Err-BadWords-clause-undo g c asks =
    let none = rw c.in-Err-BadWords.field-0-is at c.in-Err-BadWords.ensures in
    absurd (none-some Undo (sym none ∙ asks))

pub returns-in-Err-clause-undo : goal.returns-in-Err-clause-undo
returns-in-Err-clause-undo g c asks =
    let S = g.S.Store in
    let O = g.O.Sink in
    let s = c.args.store.now in
    recovery_said c.args.words.now (S.files s) (S.files s) (S.may_leave s) (S.may_leave s) (S.faults s) (S.faults s) c.report-in-Err.result (O.contents c.args.out.now) (O.contents c.report-in-Err.new.out) (O.faults c.args.out.now) (O.faults c.report-in-Err.new.out)
    (no_memory c.args.words.now (undo_plain c.args.words.now asks) (S.files s) (S.files s) (S.may_leave s) (S.may_leave s) (S.faults s) (S.faults s) (λ said. ⊥)
    c.report-in-Err.result (O.contents c.args.out.now) (O.contents c.report-in-Err.new.out) (O.faults c.args.out.now) (O.faults c.report-in-Err.new.out) refl (λ image left. left) c.report-in-Err.ensures)

pub returns-in-Some-clause-undo : goal.returns-in-Some-clause-undo
returns-in-Some-clause-undo g c asks =
    let same : c.in-Ok.command ≡ Undo = same_Some _ _ (sym c.in-Ok.ensures ∙ asks) in
    let none : NeedsFiles c.in-Ok.command → ⊥ = c.in-Some.ensures in
    absurd (none (subst NeedsFiles (sym same) tt))

pub returns-clause-undo : goal.returns-clause-undo
returns-clause-undo g c asks = c.recover_first.ensures.undo c.args.words.now asks (same_Some _ _ (sym c.in-Ok.ensures ∙ asks))

-- ---- the input

pub returns-clause-unread : goal.returns-clause-unread
returns-clause-unread g c never = c.recover_first.ensures.unread (λ batch. never (c.in-Ok.ensures ∙ ap Some batch))

pub returns-in-Err-BadWords-clause-taken : goal.returns-in-Err-BadWords-clause-taken
returns-in-Err-BadWords-clause-taken g c bytes is = untaken bytes (g.I.Source.left c.args.input.now) is

pub returns-in-Err-clause-taken : goal.returns-in-Err-clause-taken
returns-in-Err-clause-taken g c bytes is = untaken bytes (g.I.Source.left c.args.input.now) is

pub returns-in-Some-clause-taken : goal.returns-in-Some-clause-taken
returns-in-Some-clause-taken g c bytes is = untaken bytes (g.I.Source.left c.args.input.now) is

-- ---- the next call

pub returns-in-Err-BadWords-clause-next : goal.returns-in-Err-BadWords-clause-next
returns-in-Err-BadWords-clause-next g c begins =
    let S = g.S.Store in
    let s = c.args.store.now in
    begun (S.faults s) (S.faults s) (MayBegin (S.files s) (S.may_leave s)) begins c.report.result

pub returns-in-Err-clause-next : goal.returns-in-Err-clause-next
returns-in-Err-clause-next g c begins =
    let S = g.S.Store in
    let s = c.args.store.now in
    begun (S.faults s) (S.faults s) (MayBegin (S.files s) (S.may_leave s)) begins c.report-in-Err.result

pub returns-in-Some-clause-next : goal.returns-in-Some-clause-next
returns-in-Some-clause-next g c begins =
    let S = g.S.Store in
    let s = c.args.store.now in
    begun (S.faults s) (S.faults s) (MayBegin (S.files s) (S.may_leave s)) begins c.demonstrate.result
