use Rattle.std.proofs.Common.{◌≡◌, ⊎_elim, Option, Some, [], inl, inr, refl, sym, ap, subst}
use Rattle.std.specs.Prelude.{Err}
use Rattle.jr_commit.specs.Restoring.{IsOpen, Restored, SameFiles, StartsRecover}
use Rattle.jr_request.specs.Words.{command_of}
use Rattle.jr_request.specs.declared.command.Command.{Command}
use Rattle.jr_store.specs.Image.{Image}
use Rattle.jr_top.specs.Batches.{Hears}
use Rattle.jr_top.specs.Checking.{Checks}
use Rattle.jr_top.specs.Crash.{StandsForEither}
use Rattle.jr_top.specs.Engine.{AsksOne, AsksAll}
use Rattle.jr_top.specs.Recovering.{Recovers}
use Rattle.jr_top.proofs.BatchAnswers.{untaken, batch_plain, heard_so}
use Rattle.jr_top.proofs.CheckAnswers.{reading_plain, checked_so}
use Rattle.jr_top.proofs.UndoAnswers.{undo_plain, recovery_said, carried_undo}
use Rattle.jr_top.proofs.EngineAnswers.{carried_planned}
use Rattle.jr_top.proofs.PlainAnswers.{no_memory, journal, failed, stands, said_so}
use Rattle.jr_top.proofs.Carried.{weaker, carried, early, recovers, settled, still_told, recovery_failed, bad_journal, all_run}
use Rattle.jr_top.specs.declared.status.Status.TheVariants.{OutOfMemory}
use Rattle.jr_commit.specs.Restoring.{MayBegin}
use Rattle.jr_commit.proofs.Beginning.{reads_begin}
use Rattle.jr_top.specs.declared.status.Phase.TheVariants.{Recovering}
use Rattle.jr_top.proofs.Starts.{begun, at_fault, earlier_start}
use Rattle.jr_top.proofs.top.recover_first.Goals as goal

pub returns-in-Ok-clause-answer : goal.returns-in-Ok-clause-answer
returns-in-Ok-clause-answer g c words is no_batch no_reading never_undo =
    let S = g.S.Store in
    let O = g.O.Sink in
    let found = recovers c.in-Ok.field-0 (S.files c.args.store.now) (S.files c.recover.new.store) c.in-Ok.ensures.answer c.in-Ok.ensures.done c.recover.ensures.others in
    ⊎_elim
    (λ said. inl (carried words c.args.command.now is c.requires (S.files c.args.store.now) (S.files c.recover.new.store) (S.files c.serve.new.store) (S.may_leave c.args.store.now) (S.may_leave c.recover.new.store) (S.may_leave c.serve.new.store)
    (S.faults c.args.store.now) (S.faults c.recover.new.store) (S.faults c.serve.new.store) c.recover.ensures.later found c.in-Ok.ensures.after
    c.serve.result (O.contents c.args.out.now) (O.contents c.serve.new.out) (O.faults c.args.out.now) (O.faults c.serve.new.out) said))
    (λ planned. inr (carried_planned words (AsksOne words) (S.files c.args.store.now) (S.files c.serve.new.store) (S.may_leave c.args.store.now) (S.may_leave c.serve.new.store) (S.faults c.args.store.now) (S.faults c.serve.new.store)
    (c.args.command.now, is, c.requires) (S.files c.recover.new.store) (S.may_leave c.recover.new.store) (S.faults c.recover.new.store) c.recover.ensures.later found c.in-Ok.ensures.after
    c.serve.result (O.contents c.args.out.now) (O.contents c.serve.new.out) (O.faults c.args.out.now) (O.faults c.serve.new.out) planned))
    (c.serve.ensures.answer words is no_batch no_reading never_undo)

pub returns-in-Ok-clause-any_moment : goal.returns-in-Ok-clause-any_moment
returns-in-Ok-clause-any_moment g c words f r is told restored start =
    let S = g.S.Store in
    let found = recovers c.in-Ok.field-0 (S.files c.args.store.now) (S.files c.recover.new.store) c.in-Ok.ensures.answer c.in-Ok.ensures.done c.recover.ensures.others in
    let there = still_told (S.files c.args.store.now) (S.files c.recover.new.store) f found told in
    all_run S.moment S.left_since words r c.args.store.now c.recover.new.store c.serve.new.store (c.recover.ensures.any_moment f r told restored start)
    (c.serve.ensures.any_moment words there.0 r is there.1
    (settled (S.files c.args.store.now) (S.files c.recover.new.store) (S.may_leave c.recover.new.store) f there.0 r found told there.1 restored (c.in-Ok.ensures.after f r told restored start)))

pub returns-in-Err-Failed-clause-answer : goal.returns-in-Err-Failed-clause-answer
returns-in-Err-Failed-clause-answer g c words is no_batch no_reading never_undo =
    let S = g.S.Store in
    let O = g.O.Sink in
    inl (recovery_failed words (S.files c.args.store.now) (S.files c.recover.new.store) (S.may_leave c.args.store.now) (S.may_leave c.recover.new.store) (S.faults c.args.store.now) (S.faults c.recover.new.store) c.args.command.now is c.requires
    c.write_line.result (O.contents c.args.out.now) (O.contents c.write_line.new.out) (O.faults c.args.out.now) (O.faults c.write_line.new.out) c.recover.ensures.others (c.in-Err-Failed.ensures.failed (ap Err c.in-Err-Failed.field-0-is))
    (λ f r told restored start image l.
    let run = c.recover.ensures.any_moment f r told restored start in
    run.each image (g.met.S.Store.counts_now c.recover.new.store (S.moment c.args.store.now) image run.later l))
    c.write_line.ensures)

pub returns-in-Err-Failed-clause-any_moment : goal.returns-in-Err-Failed-clause-any_moment
returns-in-Err-Failed-clause-any_moment g c words f r is told restored start =
    let S = g.S.Store in
    weaker S.moment S.left_since c.args.store.now c.recover.new.store (StandsForEither words r) _ (c.recover.ensures.any_moment f r told restored start) (λ image l. inl l)

pub returns-in-Err-BadJournal-clause-answer : goal.returns-in-Err-BadJournal-clause-answer
returns-in-Err-BadJournal-clause-answer g c words is no_batch no_reading never_undo =
    let S = g.S.Store in
    let O = g.O.Sink in
    let same = c.in-Err-BadJournal.ensures.unchanged (ap Err c.in-Err-BadJournal.field-0-is) in
    inl (bad_journal words (S.files c.args.store.now) (S.files c.recover.new.store) (S.may_leave c.args.store.now) (S.may_leave c.recover.new.store) (S.faults c.args.store.now) (S.faults c.recover.new.store) c.args.command.now is c.requires
    c.report.result (O.contents c.args.out.now) (O.contents c.report.new.out) (O.faults c.args.out.now) (O.faults c.report.new.out) same.0 same.1 (c.in-Err-BadJournal.ensures.bad (ap Err c.in-Err-BadJournal.field-0-is)) c.report.ensures)

pub returns-in-Err-BadJournal-clause-any_moment : goal.returns-in-Err-BadJournal-clause-any_moment
returns-in-Err-BadJournal-clause-any_moment g c words f r is told restored start =
    let S = g.S.Store in
    weaker S.moment S.left_since c.args.store.now c.recover.new.store (StandsForEither words r) _ (c.recover.ensures.any_moment f r told restored start) (λ image l. inl l)

pub returns-in-Err-OutOfMemory-clause-answer : goal.returns-in-Err-OutOfMemory-clause-answer
returns-in-Err-OutOfMemory-clause-answer g c words is no_batch no_reading never_undo =
    let S = g.S.Store in
    let O = g.O.Sink in
    let same = c.in-Err-OutOfMemory.ensures.unchanged_memory (ap Err c.in-Err-OutOfMemory.field-0-is) in
    inl (early words (S.files c.args.store.now) (S.files c.recover.new.store) (S.may_leave c.args.store.now) (S.may_leave c.recover.new.store) (S.faults c.args.store.now) (S.faults c.recover.new.store) OutOfMemory
    c.report-in-Err-OutOfMemory.result (O.contents c.args.out.now) (O.contents c.report-in-Err-OutOfMemory.new.out) (O.faults c.args.out.now) (O.faults c.report-in-Err-OutOfMemory.new.out) same.0 same.1 (inl same.0) (λ found image stands. stands) refl c.report-in-Err-OutOfMemory.ensures)

pub returns-in-Err-OutOfMemory-clause-any_moment : goal.returns-in-Err-OutOfMemory-clause-any_moment
returns-in-Err-OutOfMemory-clause-any_moment g c words f r is told restored start =
    let S = g.S.Store in
    weaker S.moment S.left_since c.args.store.now c.recover.new.store (StandsForEither words r) _ (c.recover.ensures.any_moment f r told restored start) (λ image l. inl l)

-- ---- a batch

pub returns-in-Ok-clause-batch : goal.returns-in-Ok-clause-batch
returns-in-Ok-clause-batch g c words asks is_batch =
    let S = g.S.Store in
    let O = g.O.Sink in
    let I = g.I.Source in
    let told = S.files c.args.store.now in
    let found = S.files c.recover.new.store in
    let left = S.files c.serve.new.store in
    let kept = S.may_leave c.args.store.now in
    let outcomes = S.may_leave c.serve.new.store in
    let before = S.faults c.args.store.now in
    let after = S.faults c.serve.new.store in
    let heard = I.left c.args.input.now in
    let quiet = I.faults c.args.input.now in
    let loud = I.faults c.serve.new.input in
    let says = Hears heard quiet loud in
    let asked = batch_plain words asks in
    let recovered = recovers c.in-Ok.field-0 told found c.in-Ok.ensures.answer c.in-Ok.ensures.done c.recover.ensures.others in
    ⊎_elim
    (λ alone.
    let here : Recovers told left = subst (Recovers told) (sym alone.same) recovered in
    let closed : (f r : Image) → told ≡ Some f → Restored f r → StartsRecover f kept → (image : Image) → outcomes image → (IsOpen image → ⊥) × SameFiles image r
    = λ f r told_is restored start image l. c.in-Ok.ensures.after f r told_is restored start image (alone.fewer image l) in
    inl (said_so words asked told left kept outcomes before after says here closed alone.said c.serve.result (O.contents c.args.out.now) (O.contents c.serve.new.out) (O.faults c.args.out.now) (O.faults c.serve.new.out)
    (heard_so words told left kept outcomes before after heard quiet loud here (stands words asked told left kept outcomes before after says closed) alone.said alone.answer.0) alone.answer.1))
    (λ planned. inr (carried_planned words (AsksAll words heard) told left kept outcomes before after asked.recovery found (S.may_leave c.recover.new.store) (S.faults c.recover.new.store) c.recover.ensures.later recovered c.in-Ok.ensures.after
    c.serve.result (O.contents c.args.out.now) (O.contents c.serve.new.out) (O.faults c.args.out.now) (O.faults c.serve.new.out) planned))
    (c.serve.ensures.batch words asks is_batch)

pub returns-in-Err-Failed-clause-batch : goal.returns-in-Err-Failed-clause-batch
returns-in-Err-Failed-clause-batch g c words asks is_batch =
    let S = g.S.Store in
    let O = g.O.Sink in
    let I = g.I.Source in
    let i = c.args.input.now in
    inl (failed words (batch_plain words asks) (S.files c.args.store.now) (S.files c.recover.new.store) (S.may_leave c.args.store.now) (S.may_leave c.recover.new.store) (S.faults c.args.store.now) (S.faults c.recover.new.store)
    (Hears (I.left i) (I.faults i) (I.faults i))
    c.write_line.result (O.contents c.args.out.now) (O.contents c.write_line.new.out) (O.faults c.args.out.now) (O.faults c.write_line.new.out) c.recover.ensures.others (c.in-Err-Failed.ensures.failed (ap Err c.in-Err-Failed.field-0-is))
    (λ f r told restored start image l.
    let run = c.recover.ensures.any_moment f r told restored start in
    run.each image (g.met.S.Store.counts_now c.recover.new.store (S.moment c.args.store.now) image run.later l))
    c.write_line.ensures)

pub returns-in-Err-BadJournal-clause-batch : goal.returns-in-Err-BadJournal-clause-batch
returns-in-Err-BadJournal-clause-batch g c words asks is_batch =
    let S = g.S.Store in
    let O = g.O.Sink in
    let I = g.I.Source in
    let i = c.args.input.now in
    let same = c.in-Err-BadJournal.ensures.unchanged (ap Err c.in-Err-BadJournal.field-0-is) in
    inl (journal words (batch_plain words asks) (S.files c.args.store.now) (S.files c.recover.new.store) (S.may_leave c.args.store.now) (S.may_leave c.recover.new.store) (S.faults c.args.store.now) (S.faults c.recover.new.store)
    (Hears (I.left i) (I.faults i) (I.faults i))
    c.report.result (O.contents c.args.out.now) (O.contents c.report.new.out) (O.faults c.args.out.now) (O.faults c.report.new.out) same.0 same.1 (c.in-Err-BadJournal.ensures.bad (ap Err c.in-Err-BadJournal.field-0-is)) c.report.ensures)

pub returns-in-Err-OutOfMemory-clause-batch : goal.returns-in-Err-OutOfMemory-clause-batch
returns-in-Err-OutOfMemory-clause-batch g c words asks is_batch =
    let S = g.S.Store in
    let O = g.O.Sink in
    let I = g.I.Source in
    let i = c.args.input.now in
    let same = c.in-Err-OutOfMemory.ensures.unchanged_memory (ap Err c.in-Err-OutOfMemory.field-0-is) in
    inl (no_memory words (batch_plain words asks) (S.files c.args.store.now) (S.files c.recover.new.store) (S.may_leave c.args.store.now) (S.may_leave c.recover.new.store) (S.faults c.args.store.now) (S.faults c.recover.new.store)
    (Hears (I.left i) (I.faults i) (I.faults i))
    c.report-in-Err-OutOfMemory.result (O.contents c.args.out.now) (O.contents c.report-in-Err-OutOfMemory.new.out) (O.faults c.args.out.now) (O.faults c.report-in-Err-OutOfMemory.new.out) same.0 same.1 c.report-in-Err-OutOfMemory.ensures)

-- ---- a command that reads the files

pub returns-in-Ok-clause-reading : goal.returns-in-Ok-clause-reading
returns-in-Ok-clause-reading g c words asks is reads =
    let S = g.S.Store in
    let O = g.O.Sink in
    let told = S.files c.args.store.now in
    let found = S.files c.recover.new.store in
    let left = S.files c.serve.new.store in
    let kept = S.may_leave c.args.store.now in
    let outcomes = S.may_leave c.serve.new.store in
    let before = S.faults c.args.store.now in
    let middle = S.faults c.recover.new.store in
    let after = S.faults c.serve.new.store in
    let all = c.serve.ensures.reading reads in
    let paths = all.0 in
    let says = Checks (command_of words) left paths before after in
    let asked = reading_plain words asks paths in
    let same : left ≡ found = c.serve.ensures.reading_files reads in
    let recovered : Recovers told left = subst (Recovers told) (sym same) (recovers c.in-Ok.field-0 told found c.in-Ok.ensures.answer c.in-Ok.ensures.done c.recover.ensures.others) in
    let checks : Checks (command_of words) left paths middle after all.1 =
    subst (λ (o : Option Command). Checks o left paths middle after all.1) (sym is) (subst (λ (t : Option Image). Checks (Some c.args.command.now) t paths middle after all.1) (sym same) all.2) in
    let closed : (f r : Image) → told ≡ Some f → Restored f r → StartsRecover f kept → (image : Image) → outcomes image → (IsOpen image → ⊥) × SameFiles image r
    = λ f r told_is restored start image l. c.in-Ok.ensures.after f r told_is restored start image (c.serve.ensures.reading_crash reads image l) in
    let answer = said_so words asked told left kept outcomes before after says recovered closed all.1 c.serve.result (O.contents c.args.out.now) (O.contents c.serve.new.out) (O.faults c.args.out.now) (O.faults c.serve.new.out)
    (checked_so words paths told left kept outcomes before after middle c.recover.ensures.later recovered (stands words asked told left kept outcomes before after says closed) all.1 checks) all.3 in
    (paths, answer)

pub returns-in-Err-Failed-clause-reading : goal.returns-in-Err-Failed-clause-reading
returns-in-Err-Failed-clause-reading g c words asks is reads =
    let S = g.S.Store in
    let O = g.O.Sink in (
      [],
      failed words (reading_plain words asks []) (S.files c.args.store.now) (S.files c.recover.new.store) (S.may_leave c.args.store.now) (S.may_leave c.recover.new.store) (S.faults c.args.store.now) (S.faults c.recover.new.store)
          (Checks (command_of words) (S.files c.recover.new.store) [] (S.faults c.args.store.now) (S.faults c.recover.new.store))
          c.write_line.result (O.contents c.args.out.now) (O.contents c.write_line.new.out) (O.faults c.args.out.now) (O.faults c.write_line.new.out) c.recover.ensures.others (c.in-Err-Failed.ensures.failed (ap Err c.in-Err-Failed.field-0-is))
          (λ f r told restored start image l.
          let run = c.recover.ensures.any_moment f r told restored start in
          run.each image (g.met.S.Store.counts_now c.recover.new.store (S.moment c.args.store.now) image run.later l))
          c.write_line.ensures,
    )

pub returns-in-Err-BadJournal-clause-reading : goal.returns-in-Err-BadJournal-clause-reading
returns-in-Err-BadJournal-clause-reading g c words asks is reads =
    let S = g.S.Store in
    let O = g.O.Sink in
    let same = c.in-Err-BadJournal.ensures.unchanged (ap Err c.in-Err-BadJournal.field-0-is) in (
      [],
      journal words (reading_plain words asks []) (S.files c.args.store.now) (S.files c.recover.new.store) (S.may_leave c.args.store.now) (S.may_leave c.recover.new.store) (S.faults c.args.store.now) (S.faults c.recover.new.store)
          (Checks (command_of words) (S.files c.recover.new.store) [] (S.faults c.args.store.now) (S.faults c.recover.new.store))
          c.report.result (O.contents c.args.out.now) (O.contents c.report.new.out) (O.faults c.args.out.now) (O.faults c.report.new.out) same.0 same.1 (c.in-Err-BadJournal.ensures.bad (ap Err c.in-Err-BadJournal.field-0-is)) c.report.ensures,
    )

pub returns-in-Err-OutOfMemory-clause-reading : goal.returns-in-Err-OutOfMemory-clause-reading
returns-in-Err-OutOfMemory-clause-reading g c words asks is reads =
    let S = g.S.Store in
    let O = g.O.Sink in
    let same = c.in-Err-OutOfMemory.ensures.unchanged_memory (ap Err c.in-Err-OutOfMemory.field-0-is) in (
      [],
      no_memory words (reading_plain words asks []) (S.files c.args.store.now) (S.files c.recover.new.store) (S.may_leave c.args.store.now) (S.may_leave c.recover.new.store) (S.faults c.args.store.now) (S.faults c.recover.new.store)
          (Checks (command_of words) (S.files c.recover.new.store) [] (S.faults c.args.store.now) (S.faults c.recover.new.store))
          c.report-in-Err-OutOfMemory.result (O.contents c.args.out.now) (O.contents c.report-in-Err-OutOfMemory.new.out) (O.faults c.args.out.now) (O.faults c.report-in-Err-OutOfMemory.new.out) same.0 same.1 c.report-in-Err-OutOfMemory.ensures,
    )

-- ---- the input

pub returns-in-Err-Failed-clause-taken : goal.returns-in-Err-Failed-clause-taken
returns-in-Err-Failed-clause-taken g c bytes is = untaken bytes (g.I.Source.left c.args.input.now) is

pub returns-in-Err-BadJournal-clause-taken : goal.returns-in-Err-BadJournal-clause-taken
returns-in-Err-BadJournal-clause-taken g c bytes is = untaken bytes (g.I.Source.left c.args.input.now) is

pub returns-in-Err-OutOfMemory-clause-taken : goal.returns-in-Err-OutOfMemory-clause-taken
returns-in-Err-OutOfMemory-clause-taken g c bytes is = untaken bytes (g.I.Source.left c.args.input.now) is

-- ---- an undo

pub returns-in-Ok-clause-undo : goal.returns-in-Ok-clause-undo
returns-in-Ok-clause-undo g c words asks is_undo =
    let S = g.S.Store in
    let O = g.O.Sink in
    carried_undo words (S.files c.args.store.now) (S.files c.serve.new.store) (S.may_leave c.args.store.now) (S.may_leave c.serve.new.store) (S.faults c.args.store.now) (S.faults c.serve.new.store)
    (S.files c.recover.new.store) (S.may_leave c.recover.new.store) (S.faults c.recover.new.store) c.recover.ensures.later
    (recovers c.in-Ok.field-0 (S.files c.args.store.now) (S.files c.recover.new.store) c.in-Ok.ensures.answer c.in-Ok.ensures.done c.recover.ensures.others) c.in-Ok.ensures.after
    c.serve.result (O.contents c.args.out.now) (O.contents c.serve.new.out) (O.faults c.args.out.now) (O.faults c.serve.new.out) (c.serve.ensures.undo words asks is_undo)

pub returns-in-Err-Failed-clause-undo : goal.returns-in-Err-Failed-clause-undo
returns-in-Err-Failed-clause-undo g c words asks is_undo =
    let S = g.S.Store in
    let O = g.O.Sink in
    recovery_said words (S.files c.args.store.now) (S.files c.recover.new.store) (S.may_leave c.args.store.now) (S.may_leave c.recover.new.store) (S.faults c.args.store.now) (S.faults c.recover.new.store)
    c.write_line.result (O.contents c.args.out.now) (O.contents c.write_line.new.out) (O.faults c.args.out.now) (O.faults c.write_line.new.out)
    (failed words (undo_plain words asks) (S.files c.args.store.now) (S.files c.recover.new.store) (S.may_leave c.args.store.now) (S.may_leave c.recover.new.store) (S.faults c.args.store.now) (S.faults c.recover.new.store)
    (λ said. ⊥)
    c.write_line.result (O.contents c.args.out.now) (O.contents c.write_line.new.out) (O.faults c.args.out.now) (O.faults c.write_line.new.out) c.recover.ensures.others (c.in-Err-Failed.ensures.failed (ap Err c.in-Err-Failed.field-0-is))
    (λ f r told restored start image l.
    let run = c.recover.ensures.any_moment f r told restored start in
    run.each image (g.met.S.Store.counts_now c.recover.new.store (S.moment c.args.store.now) image run.later l))
    c.write_line.ensures)

pub returns-in-Err-BadJournal-clause-undo : goal.returns-in-Err-BadJournal-clause-undo
returns-in-Err-BadJournal-clause-undo g c words asks is_undo =
    let S = g.S.Store in
    let O = g.O.Sink in
    let same = c.in-Err-BadJournal.ensures.unchanged (ap Err c.in-Err-BadJournal.field-0-is) in
    recovery_said words (S.files c.args.store.now) (S.files c.recover.new.store) (S.may_leave c.args.store.now) (S.may_leave c.recover.new.store) (S.faults c.args.store.now) (S.faults c.recover.new.store)
    c.report.result (O.contents c.args.out.now) (O.contents c.report.new.out) (O.faults c.args.out.now) (O.faults c.report.new.out)
    (journal words (undo_plain words asks) (S.files c.args.store.now) (S.files c.recover.new.store) (S.may_leave c.args.store.now) (S.may_leave c.recover.new.store) (S.faults c.args.store.now) (S.faults c.recover.new.store)
    (λ said. ⊥)
    c.report.result (O.contents c.args.out.now) (O.contents c.report.new.out) (O.faults c.args.out.now) (O.faults c.report.new.out) same.0 same.1 (c.in-Err-BadJournal.ensures.bad (ap Err c.in-Err-BadJournal.field-0-is)) c.report.ensures)

pub returns-in-Err-OutOfMemory-clause-undo : goal.returns-in-Err-OutOfMemory-clause-undo
returns-in-Err-OutOfMemory-clause-undo g c words asks is_undo =
    let S = g.S.Store in
    let O = g.O.Sink in
    let same = c.in-Err-OutOfMemory.ensures.unchanged_memory (ap Err c.in-Err-OutOfMemory.field-0-is) in
    recovery_said words (S.files c.args.store.now) (S.files c.recover.new.store) (S.may_leave c.args.store.now) (S.may_leave c.recover.new.store) (S.faults c.args.store.now) (S.faults c.recover.new.store)
    c.report-in-Err-OutOfMemory.result (O.contents c.args.out.now) (O.contents c.report-in-Err-OutOfMemory.new.out) (O.faults c.args.out.now) (O.faults c.report-in-Err-OutOfMemory.new.out)
    (no_memory words (undo_plain words asks) (S.files c.args.store.now) (S.files c.recover.new.store) (S.may_leave c.args.store.now) (S.may_leave c.recover.new.store) (S.faults c.args.store.now) (S.faults c.recover.new.store)
    (λ said. ⊥)
    c.report-in-Err-OutOfMemory.result (O.contents c.args.out.now) (O.contents c.report-in-Err-OutOfMemory.new.out) (O.faults c.args.out.now) (O.faults c.report-in-Err-OutOfMemory.new.out) same.0 same.1 c.report-in-Err-OutOfMemory.ensures)

-- ---- the next call

pub returns-in-Ok-clause-next : goal.returns-in-Ok-clause-next
returns-in-Ok-clause-next g c begins =
    let S = g.S.Store in
    let s = c.recover.new.store in
    let e = c.serve.new.store in
    earlier_start (S.faults c.args.store.now) (S.faults s) (S.faults e) (MayBegin (S.files e) (S.may_leave e)) c.serve.result c.recover.ensures.later
    (c.serve.ensures.next (c.in-Ok.ensures.next (λ failed. cc failed) begins))

pub returns-in-Err-Failed-clause-next : goal.returns-in-Err-Failed-clause-next
returns-in-Err-Failed-clause-next g c begins =
    let S = g.S.Store in
    let O = g.O.Sink in
    let s = c.recover.new.store in
    at_fault (S.faults c.args.store.now) (S.faults s) (MayBegin (S.files s) (S.may_leave s)) Recovering _ c.write_line.result (O.contents c.args.out.now) (O.contents c.write_line.new.out) (O.faults c.args.out.now) (O.faults c.write_line.new.out)
    (c.in-Err-Failed.ensures.failed (ap Err c.in-Err-Failed.field-0-is)) c.write_line.ensures

pub returns-in-Err-BadJournal-clause-next : goal.returns-in-Err-BadJournal-clause-next
returns-in-Err-BadJournal-clause-next g c begins =
    let S = g.S.Store in
    let s = c.recover.new.store in
    let same = c.in-Err-BadJournal.ensures.unchanged (ap Err c.in-Err-BadJournal.field-0-is) in
    begun (S.faults c.args.store.now) (S.faults s) (MayBegin (S.files s) (S.may_leave s))
    (reads_begin (S.files c.args.store.now) (S.files s) (S.may_leave c.args.store.now) (S.may_leave s) same.0 same.1 begins) c.report.result

pub returns-in-Err-OutOfMemory-clause-next : goal.returns-in-Err-OutOfMemory-clause-next
returns-in-Err-OutOfMemory-clause-next g c begins =
    let S = g.S.Store in
    let s = c.recover.new.store in
    let same = c.in-Err-OutOfMemory.ensures.unchanged_memory (ap Err c.in-Err-OutOfMemory.field-0-is) in
    begun (S.faults c.args.store.now) (S.faults s) (MayBegin (S.files s) (S.may_leave s))
    (reads_begin (S.files c.args.store.now) (S.files s) (S.may_leave c.args.store.now) (S.may_leave s) same.0 same.1 begins) c.report-in-Err-OutOfMemory.result
