use Rattle.std.proofs.Common.{◌≡◌, sym, ◌∙◌, ap, subst}
use Rattle.std.proofs.lemmas.List.{length-map}
use Rattle.std.specs.Prelude.{Err, IsErrOf}
use Rattle.jr_commit.specs.declared.recovery.RecoverFault.{RecoverFault}
use Rattle.jr_commit.specs.declared.recovery.RecoverFault.TheVariants.{BadJournal}
use Rattle.jr_store.specs.Image.{Tells}
use Rattle.jr_commit.specs.SidesAt.{ChangesOnlyOn, HasSides}
use Rattle.jr_commit.specs.Steps.{sides_of, path_of, side_of}
use Rattle.jr_commit.specs.Restoring.{SaysOpen, FindsOlds, HasNoJournal, gate_path}
use Rattle.jr_commit.proofs.Recovering.{opened_by, shut_on, found_first, found_at_journal, rolled_answer, none_restored, rolled_back, keeps_others, keeps_others_before}
use Rattle.jr_commit.proofs.Beginning.{reads_begin, told_begins}
use Rattle.jr_commit.proofs.Back.{at_start, read_run, clean, entries_run, back_run, close_run, ended}
use Rattle.jr_commit.proofs.recovery.recover.Goals as goal

same_fault : {A B : Type 0} (fault : RecoverFault) → IsErrOf {T = A} (Err fault) BadJournal → IsErrOf {T = B} (Err fault) BadJournal
same_fault fault is = let one : fault ≡ BadJournal = cc is in ap Err one

pub returns-in_err-gate-clause-any_moment : goal.returns-in_err-gate-clause-any_moment
returns-in_err-gate-clause-any_moment g c f r told restored start =
    let S = g.S.Store in
    at_start S.files S.may_leave S.moment S.left_since f r c.args.store.now told restored start (g.met.S.Store.only_now c.args.store.now)

pub returns-in_err-journal-clause-any_moment : goal.returns-in_err-journal-clause-any_moment
returns-in_err-journal-clause-any_moment g c f r told restored start =
    let S = g.S.Store in
    at_start S.files S.may_leave S.moment S.left_since f r c.args.store.now told restored start (g.met.S.Store.only_now c.args.store.now)

pub returns-then-not-is_open-clause-any_moment : goal.returns-then-not-is_open-clause-any_moment
returns-then-not-is_open-clause-any_moment g c f r told restored start =
    let S = g.S.Store in
    read_run S.files S.may_leave S.moment S.left_since f r c.args.store.now told restored start (g.met.S.Store.only_now c.args.store.now) c.reads_open.new.store c.reads_open.ensures.time c.reads_open.ensures.crash

pub returns-in-Err-Failed-clause-any_moment : goal.returns-in-Err-Failed-clause-any_moment
returns-in-Err-Failed-clause-any_moment g c f r told restored start =
    let S = g.S.Store in
    read_run S.files S.may_leave S.moment S.left_since f r c.args.store.now told restored start (g.met.S.Store.only_now c.args.store.now) c.reads_open.new.store c.reads_open.ensures.time c.reads_open.ensures.crash

pub returns-in-Err-OutOfMemory-clause-any_moment : goal.returns-in-Err-OutOfMemory-clause-any_moment
returns-in-Err-OutOfMemory-clause-any_moment g c f r told restored start =
    let S = g.S.Store in
    read_run S.files S.may_leave S.moment S.left_since f r c.args.store.now told restored start (g.met.S.Store.only_now c.args.store.now) c.reads_open.new.store c.reads_open.ensures.time c.reads_open.ensures.crash

pub returns-then-not-is_open-clause-after : goal.returns-then-not-is_open-clause-after
returns-then-not-is_open-clause-after g c f r told restored start =
    let S = g.S.Store in
    let gate : c.in_ok-gate.gate ≡ gate_path = c.in_ok-gate.ensures in
    let says = subst (λ b. SaysOpen b (S.files c.args.store.now) c.in_ok-gate.gate) c.if-not-is_open.true c.in-Ok.ensures.open in
    clean S.files S.may_leave S.moment S.left_since f r c.args.store.now told restored start (g.met.S.Store.only_now c.args.store.now) c.reads_open.new.store c.reads_open.ensures.time c.reads_open.ensures.crash (shut_on (S.files c.args.store.now) c.in_ok-gate.gate f told gate says)

pub returns-in-Err-clause-any_moment : goal.returns-in-Err-clause-any_moment
returns-in-Err-clause-any_moment g c f r told restored start =
    let S = g.S.Store in
    entries_run S.files S.may_leave S.moment S.left_since f r c.args.store.now told restored start (g.met.S.Store.only_now c.args.store.now) c.reads_open.new.store c.reads_open.ensures.time c.reads_open.ensures.crash c.read_steps.new.store c.read_steps.ensures.time c.read_steps.ensures.crash

pub returns-in-Err-clause-bad : goal.returns-in-Err-clause-bad
returns-in-Err-clause-bad g c bad f told r restored =
    let S = g.S.Store in
    let opened = opened_by (S.files c.args.store.now) c.in_ok-gate.gate _ f told c.in_ok-gate.ensures c.if-not-is_open.false c.in-Ok.ensures.open in
    let none = subst (λ o. HasNoJournal o c.in_ok-journal.journal) c.reads_open.ensures.told (c.in-Err.ensures.bad (same_fault c.in-Err.fault bad)) in
    none_restored (S.files c.args.store.now) c.in_ok-journal.journal f r told c.in_ok-journal.ensures none opened restored

pub returns-in_err-take_steps_synced-clause-any_moment : goal.returns-in_err-take_steps_synced-clause-any_moment
returns-in_err-take_steps_synced-clause-any_moment g c f r told restored start =
    let S = g.S.Store in
    let opened = opened_by (S.files c.args.store.now) c.in_ok-gate.gate _ f told c.in_ok-gate.ensures c.if-not-is_open.false c.in-Ok.ensures.open in
    let finds = found_at_journal (S.files c.reads_open.new.store) c.in_ok-journal.journal _ _ c.in_ok-journal.ensures c.deref.ensures.value c.in-Ok-read_steps.ensures.found in
    back_run S.files S.may_leave S.moment S.left_since f r c.args.store.now told restored start (g.met.S.Store.only_now c.args.store.now) c.reads_open.new.store c.reads_open.ensures.time c.reads_open.ensures.crash c.read_steps.new.store c.read_steps.ensures.time c.read_steps.ensures.crash c.reads_open.ensures.told c.read_steps.ensures.told opened (sides_of c.deref.result.now) finds
    c.take_steps_synced.new.store c.take_steps_synced.ensures.any_moment

pub returns-in_err-remove_synced-clause-any_moment : goal.returns-in_err-remove_synced-clause-any_moment
returns-in_err-remove_synced-clause-any_moment g c f r told restored start =
    let S = g.S.Store in
    let opened = opened_by (S.files c.args.store.now) c.in_ok-gate.gate _ f told c.in_ok-gate.ensures c.if-not-is_open.false c.in-Ok.ensures.open in
    let finds = found_at_journal (S.files c.reads_open.new.store) c.in_ok-journal.journal _ _ c.in_ok-journal.ensures c.deref.ensures.value c.in-Ok-read_steps.ensures.found in
    close_run S.files S.may_leave S.moment S.left_since f r c.args.store.now told restored start (g.met.S.Store.only_now c.args.store.now) c.reads_open.new.store c.reads_open.ensures.time c.reads_open.ensures.crash c.read_steps.new.store c.read_steps.ensures.time c.read_steps.ensures.crash c.reads_open.ensures.told c.read_steps.ensures.told opened (sides_of c.deref.result.now) finds
    c.take_steps_synced.new.store c.take_steps_synced.ensures.any_moment c.in_ok-take_steps_synced.ensures.taken c.in_ok-take_steps_synced.ensures.durable c.in_ok-gate.gate c.in_ok-gate.ensures c.remove_synced.new.store c.remove_synced.ensures.any_moment

pub returns-clause-any_moment : goal.returns-clause-any_moment
returns-clause-any_moment g c f r told restored start =
    let S = g.S.Store in
    let opened = opened_by (S.files c.args.store.now) c.in_ok-gate.gate _ f told c.in_ok-gate.ensures c.if-not-is_open.false c.in-Ok.ensures.open in
    let finds = found_at_journal (S.files c.reads_open.new.store) c.in_ok-journal.journal _ _ c.in_ok-journal.ensures c.deref.ensures.value c.in-Ok-read_steps.ensures.found in
    close_run S.files S.may_leave S.moment S.left_since f r c.args.store.now told restored start (g.met.S.Store.only_now c.args.store.now) c.reads_open.new.store c.reads_open.ensures.time c.reads_open.ensures.crash c.read_steps.new.store c.read_steps.ensures.time c.read_steps.ensures.crash c.reads_open.ensures.told c.read_steps.ensures.told opened (sides_of c.deref.result.now) finds
    c.take_steps_synced.new.store c.take_steps_synced.ensures.any_moment c.in_ok-take_steps_synced.ensures.taken c.in_ok-take_steps_synced.ensures.durable c.in_ok-gate.gate c.in_ok-gate.ensures c.remove_synced.new.store c.remove_synced.ensures.any_moment

pub returns-clause-after : goal.returns-clause-after
returns-clause-after g c f r told restored start =
    let S = g.S.Store in
    let opened = opened_by (S.files c.args.store.now) c.in_ok-gate.gate _ f told c.in_ok-gate.ensures c.if-not-is_open.false c.in-Ok.ensures.open in
    let finds = found_at_journal (S.files c.reads_open.new.store) c.in_ok-journal.journal _ _ c.in_ok-journal.ensures c.deref.ensures.value c.in-Ok-read_steps.ensures.found in
    ended S.files S.may_leave S.moment S.left_since f r c.args.store.now told restored start (g.met.S.Store.only_now c.args.store.now) c.reads_open.new.store c.reads_open.ensures.time c.reads_open.ensures.crash c.read_steps.new.store c.read_steps.ensures.time c.read_steps.ensures.crash c.reads_open.ensures.told c.read_steps.ensures.told opened (sides_of c.deref.result.now) finds
    c.take_steps_synced.new.store c.take_steps_synced.ensures.any_moment c.in_ok-take_steps_synced.ensures.taken c.in_ok-take_steps_synced.ensures.durable c.in_ok-gate.gate c.in_ok-gate.ensures c.remove_synced.new.store c.remove_synced.ensures.any_moment c.in_ok-remove_synced.ensures.removed c.in_ok-remove_synced.ensures.durable

pub returns-clause-answer : goal.returns-clause-answer
returns-clause-answer g c =
    let S = g.S.Store in
    let gate : c.in_ok-gate.gate ≡ gate_path = c.in_ok-gate.ensures in
    let says = subst (λ b. SaysOpen b (S.files c.args.store.now) c.in_ok-gate.gate) c.if-not-is_open.false c.in-Ok.ensures.open in
    let found = subst (λ o. FindsOlds o c.in_ok-journal.journal (sides_of c.in-Ok-read_steps.steps.items)) c.reads_open.ensures.told c.in-Ok-read_steps.ensures.found in
    rolled_answer (S.files c.args.store.now) c.in_ok-gate.gate c.in_ok-journal.journal (sides_of c.in-Ok-read_steps.steps.items) c.len.result gate c.in_ok-journal.ensures says found
    (c.len.ensures ∙ c.in-Ok-read_steps.steps.ok.0 ∙ sym (length-map c.in-Ok-read_steps.steps.items (λ s. (path_of s, side_of s))))

pub returns-in_err-take_steps_synced-clause-others : goal.returns-in_err-take_steps_synced-clause-others
returns-in_err-take_steps_synced-clause-others g c =
    let S = g.S.Store in
    let es = sides_of c.deref.result.now in
    let finds = found_first (S.files c.args.store.now) (S.files c.reads_open.new.store) c.in_ok-journal.journal _ _ c.reads_open.ensures.told c.deref.ensures.value c.in-Ok-read_steps.ensures.found in
    keeps_others_before (S.files c.args.store.now) (S.files c.take_steps_synced.new.store) c.in_ok-gate.gate c.in_ok-journal.journal es c.in_ok-gate.ensures finds
    (subst (λ o. Tells o (S.files c.take_steps_synced.new.store) (ChangesOnlyOn es)) (c.read_steps.ensures.told ∙ c.reads_open.ensures.told) c.take_steps_synced.ensures.told)

pub returns-in_err-remove_synced-clause-others : goal.returns-in_err-remove_synced-clause-others
returns-in_err-remove_synced-clause-others g c =
    let S = g.S.Store in
    let es = sides_of c.deref.result.now in
    let finds = found_first (S.files c.args.store.now) (S.files c.reads_open.new.store) c.in_ok-journal.journal _ _ c.reads_open.ensures.told c.deref.ensures.value c.in-Ok-read_steps.ensures.found in
    keeps_others (S.files c.args.store.now) (S.files c.take_steps_synced.new.store) (S.files c.remove_synced.new.store) c.in_ok-gate.gate c.in_ok-journal.journal es c.in_ok-gate.ensures finds
    (subst (λ o. Tells o (S.files c.take_steps_synced.new.store) (ChangesOnlyOn es)) (c.read_steps.ensures.told ∙ c.reads_open.ensures.told) c.take_steps_synced.ensures.told) c.remove_synced.ensures.told

pub returns-clause-others : goal.returns-clause-others
returns-clause-others g c =
    let S = g.S.Store in
    let es = sides_of c.deref.result.now in
    let finds = found_first (S.files c.args.store.now) (S.files c.reads_open.new.store) c.in_ok-journal.journal _ _ c.reads_open.ensures.told c.deref.ensures.value c.in-Ok-read_steps.ensures.found in
    keeps_others (S.files c.args.store.now) (S.files c.take_steps_synced.new.store) (S.files c.remove_synced.new.store) c.in_ok-gate.gate c.in_ok-journal.journal es c.in_ok-gate.ensures finds
    (subst (λ o. Tells o (S.files c.take_steps_synced.new.store) (ChangesOnlyOn es)) (c.read_steps.ensures.told ∙ c.reads_open.ensures.told) c.take_steps_synced.ensures.told) c.remove_synced.ensures.told

pub returns-clause-done : goal.returns-clause-done
returns-clause-done g c =
    let S = g.S.Store in
    let es = sides_of c.deref.result.now in
    let told : S.files c.read_steps.new.store ≡ S.files c.args.store.now = c.read_steps.ensures.told ∙ c.reads_open.ensures.told in
    let finds = found_first (S.files c.args.store.now) (S.files c.reads_open.new.store) c.in_ok-journal.journal _ _ c.reads_open.ensures.told c.deref.ensures.value c.in-Ok-read_steps.ensures.found in
    let says = subst (λ b. SaysOpen b (S.files c.args.store.now) c.in_ok-gate.gate) c.if-not-is_open.false c.in-Ok.ensures.open in
    rolled_back (S.files c.args.store.now) (S.files c.take_steps_synced.new.store) (S.files c.remove_synced.new.store) c.in_ok-gate.gate c.in_ok-journal.journal es c.in_ok-gate.ensures c.in_ok-journal.ensures says finds
    (subst (λ o. Tells o (S.files c.take_steps_synced.new.store) (HasSides es)) told c.in_ok-take_steps_synced.ensures.taken) c.in_ok-remove_synced.ensures.removed

pub returns-then-not-is_open-clause-next : goal.returns-then-not-is_open-clause-next
returns-then-not-is_open-clause-next g c _ =
    let S = g.S.Store in
    reads_begin (S.files c.args.store.now) (S.files c.reads_open.new.store) (S.may_leave c.args.store.now) (S.may_leave c.reads_open.new.store) c.reads_open.ensures.told c.reads_open.ensures.crash

pub returns-in-Err-OutOfMemory-clause-next : goal.returns-in-Err-OutOfMemory-clause-next
returns-in-Err-OutOfMemory-clause-next g c _ =
    let S = g.S.Store in
    reads_begin (S.files c.args.store.now) (S.files c.reads_open.new.store) (S.may_leave c.args.store.now) (S.may_leave c.reads_open.new.store) c.reads_open.ensures.told c.reads_open.ensures.crash

pub returns-in-Err-clause-next : goal.returns-in-Err-clause-next
returns-in-Err-clause-next g c _ begins =
    let S = g.S.Store in
    reads_begin (S.files c.reads_open.new.store) (S.files c.read_steps.new.store) (S.may_leave c.reads_open.new.store) (S.may_leave c.read_steps.new.store) c.read_steps.ensures.told c.read_steps.ensures.crash
    (reads_begin (S.files c.args.store.now) (S.files c.reads_open.new.store) (S.may_leave c.args.store.now) (S.may_leave c.reads_open.new.store) c.reads_open.ensures.told c.reads_open.ensures.crash begins)

pub returns-clause-next : goal.returns-clause-next
returns-clause-next g c _ begins = told_begins (g.S.Store.files c.remove_synced.new.store) (g.S.Store.may_leave c.remove_synced.new.store) c.in_ok-remove_synced.ensures.durable

-- ---- reads without a crash

pub returns-in_err-gate-clause-read_back : goal.returns-in_err-gate-clause-read_back
returns-in_err-gate-clause-read_back g c f r h told restored start is =
    let run = returns-in_err-gate-clause-any_moment g c f r told restored start in
    run.each h (g.met.S.Store.counts_now c.args.store.now (g.S.Store.moment c.args.store.now) h run.later (g.met.S.Store.reads_now c.args.store.now h is))

pub returns-in_err-journal-clause-read_back : goal.returns-in_err-journal-clause-read_back
returns-in_err-journal-clause-read_back g c f r h told restored start is =
    let run = returns-in_err-journal-clause-any_moment g c f r told restored start in
    run.each h (g.met.S.Store.counts_now c.args.store.now (g.S.Store.moment c.args.store.now) h run.later (g.met.S.Store.reads_now c.args.store.now h is))

pub returns-then-not-is_open-clause-read_back : goal.returns-then-not-is_open-clause-read_back
returns-then-not-is_open-clause-read_back g c f r h told restored start is =
    let run = returns-then-not-is_open-clause-any_moment g c f r told restored start in
    run.each h (g.met.S.Store.counts_now c.reads_open.new.store (g.S.Store.moment c.args.store.now) h run.later (g.met.S.Store.reads_now c.reads_open.new.store h is))

pub returns-in-Err-Failed-clause-read_back : goal.returns-in-Err-Failed-clause-read_back
returns-in-Err-Failed-clause-read_back g c f r h told restored start is =
    let run = returns-in-Err-Failed-clause-any_moment g c f r told restored start in
    run.each h (g.met.S.Store.counts_now c.reads_open.new.store (g.S.Store.moment c.args.store.now) h run.later (g.met.S.Store.reads_now c.reads_open.new.store h is))

pub returns-in-Err-OutOfMemory-clause-read_back : goal.returns-in-Err-OutOfMemory-clause-read_back
returns-in-Err-OutOfMemory-clause-read_back g c f r h told restored start is =
    let run = returns-in-Err-OutOfMemory-clause-any_moment g c f r told restored start in
    run.each h (g.met.S.Store.counts_now c.reads_open.new.store (g.S.Store.moment c.args.store.now) h run.later (g.met.S.Store.reads_now c.reads_open.new.store h is))

pub returns-in-Err-clause-read_back : goal.returns-in-Err-clause-read_back
returns-in-Err-clause-read_back g c f r h told restored start is =
    let run = returns-in-Err-clause-any_moment g c f r told restored start in
    run.each h (g.met.S.Store.counts_now c.read_steps.new.store (g.S.Store.moment c.args.store.now) h run.later (g.met.S.Store.reads_now c.read_steps.new.store h is))

pub returns-in_err-take_steps_synced-clause-read_back : goal.returns-in_err-take_steps_synced-clause-read_back
returns-in_err-take_steps_synced-clause-read_back g c f r h told restored start is =
    let run = returns-in_err-take_steps_synced-clause-any_moment g c f r told restored start in
    run.each h (g.met.S.Store.counts_now c.take_steps_synced.new.store (g.S.Store.moment c.args.store.now) h run.later (g.met.S.Store.reads_now c.take_steps_synced.new.store h is))

pub returns-in_err-remove_synced-clause-read_back : goal.returns-in_err-remove_synced-clause-read_back
returns-in_err-remove_synced-clause-read_back g c f r h told restored start is =
    let run = returns-in_err-remove_synced-clause-any_moment g c f r told restored start in
    run.each h (g.met.S.Store.counts_now c.remove_synced.new.store (g.S.Store.moment c.args.store.now) h run.later (g.met.S.Store.reads_now c.remove_synced.new.store h is))

pub returns-clause-read_back : goal.returns-clause-read_back
returns-clause-read_back g c f r h told restored start is =
    let run = returns-clause-any_moment g c f r told restored start in
    run.each h (g.met.S.Store.counts_now c.remove_synced.new.store (g.S.Store.moment c.args.store.now) h run.later (g.met.S.Store.reads_now c.remove_synced.new.store h is))
