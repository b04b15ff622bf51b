use Rattle.std.proofs.Common.{◌≡◌, ◌⊎◌, ⊎_elim, inl, inr, ◌∙◌, sym}
use Rattle.std.proofs.lemmas.Option.{none-some}
use Rattle.jr_request.specs.declared.command.Command.TheVariants.{Batch, Undo}
use Rattle.jr_top.proofs.BatchAnswers.{batch_plain, exact as batch_answer, no_batch}
use Rattle.jr_top.proofs.CheckAnswers.{reading_plain, exact as reading_answer, no_reading, reading_needs}
use Rattle.jr_top.proofs.PlainAnswers.{behind, outcome as plain_outcome, unreadable as plain_unreadable, by_batch, by_reading, by_undo}
use Rattle.jr_top.proofs.UndoAnswers.{no_undo_asked, outcome as undo_outcome, unreadable as undo_unreadable, exact as undo_answer}
use Rattle.jr_top.proofs.Choosing.{small_never, refused_never, never_recovers}
use Rattle.jr_top.proofs.EngineAnswers.{outcome as planned_outcome, asked_of}
use Rattle.jr_top.proofs.Exact.{bad_words, needs_no_files, unreadable, exact}
use Rattle.jr_top.proofs.Outcomes.{outcome, complete}
use Rattle.jr_top.specs.Answers.{IsFailure}
use Rattle.jr_top.specs.Engine.{AsksOne, AsksAll}
use Rattle.jr_top.specs.Batches.{Hears}
use Rattle.jr_request.specs.Words.{command_of}
use Rattle.jr_top.specs.Checking.{Checks}
use Rattle.jr_top.specs.declared.status.Status.TheVariants.{BadJournal}
use Rattle.jr_top.proofs.top.answered.Goals as goal

pub returns-clause-answer : goal.returns-clause-answer
returns-clause-answer g c never none other =
    let S = g.S.Store in
    ⊎_elim
    (λ said. inl (outcome c.args.words.now (S.files c.args.store.now) (S.files c.perform.new.store) (S.may_leave c.args.store.now) (S.may_leave c.perform.new.store) (S.faults c.args.store.now) (S.faults c.perform.new.store)
    (g.O.Sink.contents c.args.out.now) (g.O.Sink.contents c.perform.new.out) (g.O.Sink.faults c.args.out.now) (g.O.Sink.faults c.perform.new.out) c.perform.result said))
    (λ planned. inr (planned_outcome c.args.words.now (AsksOne c.args.words.now) (S.files c.args.store.now) (S.files c.perform.new.store) (S.may_leave c.args.store.now) (S.may_leave c.perform.new.store) (S.faults c.args.store.now)
    (S.faults c.perform.new.store) (g.O.Sink.contents c.args.out.now) (g.O.Sink.contents c.perform.new.out) (g.O.Sink.faults c.args.out.now) (g.O.Sink.faults c.perform.new.out) c.perform.result planned))
    (c.perform.ensures.answer never none other)

pub returns-clause-batch : goal.returns-clause-batch
returns-clause-batch g c asks =
    let S = g.S.Store in
    let I = g.I.Source in
    let heard = I.left c.args.input.now in
    ⊎_elim
    (λ said. inl (plain_outcome c.args.words.now (batch_plain c.args.words.now asks) (S.files c.args.store.now) (S.files c.perform.new.store) (S.may_leave c.args.store.now) (S.may_leave c.perform.new.store) (S.faults c.args.store.now)
    (S.faults c.perform.new.store) (Hears heard (I.faults c.args.input.now) (I.faults c.perform.new.input))
    (g.O.Sink.contents c.args.out.now) (g.O.Sink.contents c.perform.new.out) (g.O.Sink.faults c.args.out.now) (g.O.Sink.faults c.perform.new.out) (λ never. never) c.perform.result said))
    (λ planned. inr (planned_outcome c.args.words.now (AsksAll c.args.words.now heard) (S.files c.args.store.now) (S.files c.perform.new.store) (S.may_leave c.args.store.now) (S.may_leave c.perform.new.store) (S.faults c.args.store.now)
    (S.faults c.perform.new.store) (g.O.Sink.contents c.args.out.now) (g.O.Sink.contents c.perform.new.out) (g.O.Sink.faults c.args.out.now) (g.O.Sink.faults c.perform.new.out) c.perform.result planned))
    (c.perform.ensures.batch asks)

pub returns-clause-reading : goal.returns-clause-reading
returns-clause-reading g c asks =
    let S = g.S.Store in
    let said = c.perform.ensures.reading asks in (
      said.0,
      plain_outcome c.args.words.now (reading_plain c.args.words.now asks said.0) (S.files c.args.store.now) (S.files c.perform.new.store) (S.may_leave c.args.store.now) (S.may_leave c.perform.new.store) (S.faults c.args.store.now) (S.faults c.perform.new.store)
          (Checks (command_of c.args.words.now) (S.files c.perform.new.store) said.0 (S.faults c.args.store.now) (S.faults c.perform.new.store))
          (g.O.Sink.contents c.args.out.now) (g.O.Sink.contents c.perform.new.out) (g.O.Sink.faults c.args.out.now) (g.O.Sink.faults c.perform.new.out) (λ never. never) c.perform.result (behind said),
    )

pub returns-clause-complete : goal.returns-clause-complete
returns-clause-complete g c files found told restored file at name bytes asks holds serves =
    let S = g.S.Store in
    ⊎_elim
    (λ said. complete c.args.words.now (S.files c.args.store.now) (S.files c.perform.new.store) (S.may_leave c.args.store.now) (S.may_leave c.perform.new.store) (S.faults c.args.store.now) (S.faults c.perform.new.store)
    (g.O.Sink.contents c.args.out.now) (g.O.Sink.contents c.perform.new.out) (g.O.Sink.faults c.args.out.now) (g.O.Sink.faults c.perform.new.out)
    files found told restored file at name bytes asks holds serves c.perform.result said)
    (λ planned.
    let a = asked_of c.args.words.now (AsksOne c.args.words.now) (S.files c.args.store.now) (S.files c.perform.new.store) (S.may_leave c.args.store.now) (S.may_leave c.perform.new.store) (S.faults c.args.store.now)
    (S.faults c.perform.new.store) (g.O.Sink.contents c.args.out.now) (g.O.Sink.contents c.perform.new.out) (g.O.Sink.faults c.args.out.now) (g.O.Sink.faults c.perform.new.out) c.perform.result planned in
    absurd (small_never c.args.words.now (S.files c.args.store.now) a.0 files found a.1 file at name bytes told restored a.3 a.4 asks holds serves))
    (c.perform.ensures.answer (no_batch c.args.words.now file at name asks) (no_reading c.args.words.now file at name asks) (no_undo_asked c.args.words.now file at name asks))

pub returns-clause-read_back : goal.returns-clause-read_back
returns-clause-read_back g c f r h told restored start is =
    let S = g.S.Store in
    let run = c.perform.ensures.any_moment f r told restored start in
    run.each h (g.met.S.Store.counts_now c.perform.new.store (S.moment c.args.store.now) h run.later (g.met.S.Store.reads_now c.perform.new.store h is))

pub returns-clause-exact : goal.returns-clause-exact
returns-clause-exact g c files found told restored file at name bytes comes_to asks holds serves renames =
    let S = g.S.Store in
    ⊎_elim
    (λ said. exact c.args.words.now (S.files c.args.store.now) (S.files c.perform.new.store) (S.may_leave c.args.store.now) (S.may_leave c.perform.new.store) (S.faults c.args.store.now) (S.faults c.perform.new.store)
    (g.O.Sink.contents c.args.out.now) (g.O.Sink.contents c.perform.new.out) (g.O.Sink.faults c.args.out.now) (g.O.Sink.faults c.perform.new.out)
    files found told restored file at name bytes asks holds c.args.alloc comes_to renames c.perform.result said)
    (λ planned.
    let a = asked_of c.args.words.now (AsksOne c.args.words.now) (S.files c.args.store.now) (S.files c.perform.new.store) (S.may_leave c.args.store.now) (S.may_leave c.perform.new.store) (S.faults c.args.store.now)
    (S.faults c.perform.new.store) (g.O.Sink.contents c.args.out.now) (g.O.Sink.contents c.perform.new.out) (g.O.Sink.faults c.args.out.now) (g.O.Sink.faults c.perform.new.out) c.perform.result planned in
    absurd (small_never c.args.words.now (S.files c.args.store.now) a.0 files found a.1 file at name bytes told restored a.3 a.4 asks holds serves))
    (c.perform.ensures.answer (no_batch c.args.words.now file at name asks) (no_reading c.args.words.now file at name asks) (no_undo_asked c.args.words.now file at name asks))

pub returns-clause-needs_no_files : goal.returns-clause-needs_no_files
returns-clause-needs_no_files g c some never =
    let S = g.S.Store in
    ⊎_elim
    (λ said. needs_no_files c.args.words.now (S.files c.args.store.now) (S.files c.perform.new.store) (S.may_leave c.args.store.now) (S.may_leave c.perform.new.store) (S.faults c.args.store.now) (S.faults c.perform.new.store)
    (g.O.Sink.contents c.args.out.now) (g.O.Sink.contents c.perform.new.out) (g.O.Sink.faults c.args.out.now) (g.O.Sink.faults c.perform.new.out)
    c.perform.result said some never)
    (λ planned.
    let a = asked_of c.args.words.now (AsksOne c.args.words.now) (S.files c.args.store.now) (S.files c.perform.new.store) (S.may_leave c.args.store.now) (S.may_leave c.perform.new.store) (S.faults c.args.store.now)
    (S.faults c.perform.new.store) (g.O.Sink.contents c.args.out.now) (g.O.Sink.contents c.perform.new.out) (g.O.Sink.faults c.args.out.now) (g.O.Sink.faults c.perform.new.out) c.perform.result planned in
    absurd (never a.2))
    (c.perform.ensures.answer (λ batch. never (Batch, batch, tt)) (λ asks. never (asks.0, asks.1, reading_needs asks.0 asks.2)) (λ undo. never (Undo, undo, tt)))

pub returns-clause-bad_words : goal.returns-clause-bad_words
returns-clause-bad_words g c none =
    let S = g.S.Store in
    ⊎_elim
    (λ said. bad_words c.args.words.now (S.files c.args.store.now) (S.files c.perform.new.store) (S.may_leave c.args.store.now) (S.may_leave c.perform.new.store) (S.faults c.args.store.now) (S.faults c.perform.new.store)
    (g.O.Sink.contents c.args.out.now) (g.O.Sink.contents c.perform.new.out) (g.O.Sink.faults c.args.out.now) (g.O.Sink.faults c.perform.new.out)
    c.perform.result said none)
    (λ planned.
    let a = asked_of c.args.words.now (AsksOne c.args.words.now) (S.files c.args.store.now) (S.files c.perform.new.store) (S.may_leave c.args.store.now) (S.may_leave c.perform.new.store) (S.faults c.args.store.now)
    (S.faults c.perform.new.store) (g.O.Sink.contents c.args.out.now) (g.O.Sink.contents c.perform.new.out) (g.O.Sink.faults c.args.out.now) (g.O.Sink.faults c.perform.new.out) c.perform.result planned in
    absurd (none-some a.2.0 (sym none ∙ a.2.1)))
    (c.perform.ensures.answer (λ batch. none-some Batch (sym none ∙ batch)) (λ asks. none-some asks.0 (sym none ∙ asks.1)) (λ undo. none-some Undo (sym none ∙ undo)))

pub returns-clause-bad_journal : goal.returns-clause-bad_journal
returns-clause-bad_journal g c files told none asks =
    let S = g.S.Store in
    let O = g.O.Sink in
    let I = g.I.Source in
    let words = c.args.words.now in
    let before = c.args.store.now in
    let after = c.perform.new.store in
    let old = O.contents c.args.out.now in
    let new = O.contents c.perform.new.out in
    let fewer = O.faults c.args.out.now in
    let more = O.faults c.perform.new.out in
    by_batch words ((c.perform.result ≡ BadJournal) ⊎ IsFailure (S.faults before) (S.faults after) fewer more c.perform.result) asks
    (λ batch. ⊎_elim
    (λ said. plain_unreadable words (batch_plain words batch) (S.files before) (S.files after) (S.may_leave before) (S.may_leave after) (S.faults before) (S.faults after)
    (Hears (I.left c.args.input.now) (I.faults c.args.input.now) (I.faults c.perform.new.input)) old new fewer more files told none c.perform.result said)
    (λ planned.
    let a = asked_of words (AsksAll words (I.left c.args.input.now)) (S.files before) (S.files after) (S.may_leave before) (S.may_leave after) (S.faults before) (S.faults after) old new fewer more c.perform.result planned in
    absurd (never_recovers (S.files before) a.0 files told none a.3))
    (c.perform.ensures.batch batch))
    (λ no_batch. by_reading words ((c.perform.result ≡ BadJournal) ⊎ IsFailure (S.faults before) (S.faults after) fewer more c.perform.result) asks
    (λ reading. plain_unreadable words (reading_plain words reading (c.perform.ensures.reading reading).0) (S.files before) (S.files after) (S.may_leave before) (S.may_leave after) (S.faults before) (S.faults after)
    (Checks (command_of words) (S.files after) (c.perform.ensures.reading reading).0 (S.faults before) (S.faults after)) old new fewer more files told none c.perform.result (behind (c.perform.ensures.reading reading)))
    (λ no_reading_asked. by_undo words ((c.perform.result ≡ BadJournal) ⊎ IsFailure (S.faults before) (S.faults after) fewer more c.perform.result) asks
    (λ undo. undo_unreadable words (S.files before) (S.files after) (S.may_leave before) (S.may_leave after) (S.faults before) (S.faults after) old new fewer more files told none c.perform.result (c.perform.ensures.undo undo))
    (λ never_undo. ⊎_elim
    (λ said. unreadable words (S.files before) (S.files after) (S.may_leave before) (S.may_leave after) (S.faults before) (S.faults after) old new fewer more c.perform.result said files told none asks)
    (λ planned.
    let a = asked_of words (AsksOne words) (S.files before) (S.files after) (S.may_leave before) (S.may_leave after) (S.faults before) (S.faults after) old new fewer more c.perform.result planned in
    absurd (never_recovers (S.files before) a.0 files told none a.3))
    (c.perform.ensures.answer no_batch no_reading_asked never_undo))))

pub returns-clause-undo : goal.returns-clause-undo
returns-clause-undo g c asks =
    let S = g.S.Store in
    undo_outcome c.args.words.now (S.files c.args.store.now) (S.files c.perform.new.store) (S.may_leave c.args.store.now) (S.may_leave c.perform.new.store) (S.faults c.args.store.now) (S.faults c.perform.new.store)
    (g.O.Sink.contents c.args.out.now) (g.O.Sink.contents c.perform.new.out) (g.O.Sink.faults c.args.out.now) (g.O.Sink.faults c.perform.new.out) c.perform.result (c.perform.ensures.undo asks)

pub returns-clause-undo_exact : goal.returns-clause-undo_exact
returns-clause-undo_exact g c files found told restored asks =
    let S = g.S.Store in
    undo_answer c.args.words.now (S.files c.args.store.now) (S.files c.perform.new.store) (S.may_leave c.args.store.now) (S.may_leave c.perform.new.store) (S.faults c.args.store.now) (S.faults c.perform.new.store)
    (g.O.Sink.contents c.args.out.now) (g.O.Sink.contents c.perform.new.out) (g.O.Sink.faults c.args.out.now) (g.O.Sink.faults c.perform.new.out)
    files found told restored c.perform.result (c.perform.ensures.undo asks)

pub returns-clause-batch_exact : goal.returns-clause-batch_exact
returns-clause-batch_exact g c files found bytes why told restored asks heard q =
    let S = g.S.Store in
    let I = g.I.Source in
    ⊎_elim
    (λ said. batch_answer c.args.words.now (S.files c.args.store.now) (S.files c.perform.new.store) (S.may_leave c.args.store.now) (S.may_leave c.perform.new.store) (S.faults c.args.store.now) (S.faults c.perform.new.store)
    (I.left c.args.input.now) (I.faults c.args.input.now) (I.faults c.perform.new.input)
    (g.O.Sink.contents c.args.out.now) (g.O.Sink.contents c.perform.new.out) (g.O.Sink.faults c.args.out.now) (g.O.Sink.faults c.perform.new.out)
    c.args.alloc files found told restored bytes why heard q c.perform.result said)
    (λ planned.
    let a = asked_of c.args.words.now (AsksAll c.args.words.now (I.left c.args.input.now)) (S.files c.args.store.now) (S.files c.perform.new.store) (S.may_leave c.args.store.now) (S.may_leave c.perform.new.store) (S.faults c.args.store.now)
    (S.faults c.perform.new.store) (g.O.Sink.contents c.args.out.now) (g.O.Sink.contents c.perform.new.out) (g.O.Sink.faults c.args.out.now) (g.O.Sink.faults c.perform.new.out) c.perform.result planned in
    absurd (refused_never c.args.words.now (I.left c.args.input.now) a.0 a.1 a.4 c.args.alloc bytes why heard q))
    (c.perform.ensures.batch asks)

pub returns-clause-reading_exact : goal.returns-clause-reading_exact
returns-clause-reading_exact g c files found told restored asks =
    let S = g.S.Store in
    reading_answer c.args.words.now (c.perform.ensures.reading asks).0 (S.files c.args.store.now) (S.files c.perform.new.store) (S.may_leave c.args.store.now) (S.may_leave c.perform.new.store) (S.faults c.args.store.now) (S.faults c.perform.new.store)
    (g.O.Sink.contents c.args.out.now) (g.O.Sink.contents c.perform.new.out) (g.O.Sink.faults c.args.out.now) (g.O.Sink.faults c.perform.new.out)
    files found told restored c.perform.result (behind (c.perform.ensures.reading asks))
