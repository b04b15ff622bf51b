use Rattle.std.proofs.Common.{◌≡◌, ◌≢◌, eqb, Bool, true, false, inl, ◌⊎◌, List, [], ◌∷◌, length, refl, sym, subst, ◌∙◌, arith}
use Rattle.std.proofs.lemmas.Bool.{eqb-true}
use Rattle.std.proofs.lemmas.Result.{on_ok_weaker}
use Rattle.std.specs.Prelude.{Result, OnOk, Ok, Err}
use Rattle.jr_commit.specs.SidesAt.{SideAt, with_sides}
use Rattle.jr_commit.specs.Steps.{sides_of}
use Rattle.jr_commit.specs.Restoring.{RestoresTo}
use Rattle.jr_commit.specs.declared.actions.Step.{Step}
use Rattle.jr_commit.proofs.Moments.{started}
use Rattle.jr_commit.proofs.Run.{before, all_done, journal_kept, journal_off, journal_run, gate_run, steps_run, close_run, ended}
use Rattle.jr_commit.proofs.plan.commit_steps.Goals as goal

-- what two facts at `Ok` give together
on_ok_both : {T E P Q R : Type 0} (r : Result T E) → (P → Q → R) → OnOk r P → OnOk r Q → OnOk r R
on_ok_both (Ok x) both p q = both p q
on_ok_both (Err e) both p q = tt

no_sides : (steps : List Step) (b : Bool) → b ≡ eqb (length steps) 0 → b ≡ true → sides_of steps ≡ []
no_sides [] b is empty = refl
no_sides (s ∷ steps) b is empty = let none : length (s ∷ steps) ≡ 0 = eqb-true (length (s ∷ steps)) 0 (sym is ∙ empty) in absurd (omega arith)

some_steps : (steps : List Step) (b : Bool) → b ≡ eqb (length steps) 0 → b ≡ false → sides_of steps ≢ []
some_steps [] b is full = let lies : true ≡ false = sym is ∙ full in λ _. cc lies
some_steps (s ∷ steps) b is full = λ none. cc none

pub returns-then-is_empty-clause-done : goal.returns-then-is_empty-clause-done
returns-then-is_empty-clause-done g c f told start image left =
    let S = g.S.Store in
    subst (λ (l : List SideAt). RestoresTo image (with_sides l f)) (sym (no_sides c.args.steps.now c.is_empty.result c.is_empty.ensures c.if-is_empty.true))
    (before (S.may_leave c.args.store.now) (record { journal = c.args.journal.now; steps = sides_of c.args.steps.now }) f start image left)

pub returns-then-is_empty-clause-any_moment : goal.returns-then-is_empty-clause-any_moment
returns-then-is_empty-clause-any_moment g c f told start =
    let S = g.S.Store in
    started S.moment S.left_since c.args.store.now (λ image. RestoresTo image f ⊎ RestoresTo image (with_sides (sides_of c.args.steps.now) f))
    (λ image left. inl (before (S.may_leave c.args.store.now) (record { journal = c.args.journal.now; steps = sides_of c.args.steps.now }) f start image (g.met.S.Store.only_now c.args.store.now image left)))

pub returns-in_err-write_synced-clause-any_moment : goal.returns-in_err-write_synced-clause-any_moment
returns-in_err-write_synced-clause-any_moment g c f told start =
    let S = g.S.Store in
    let some = some_steps c.args.steps.now c.is_empty.result c.is_empty.ensures c.if-is_empty.false in
    journal_run S.files S.may_leave S.moment S.left_since c.args.journal.now c.args.journal_path.now c.args.gate_path.now (c.requires.journal_is some) (c.requires.gate_is some) f (sides_of c.args.steps.now) c.args.store.now (c.requires.entries some) start told (g.met.S.Store.only_now c.args.store.now)
    c.write_synced.new.store c.write_synced.ensures.any_moment

pub returns-in_err-write_synced-2-clause-any_moment : goal.returns-in_err-write_synced-2-clause-any_moment
returns-in_err-write_synced-2-clause-any_moment g c f told start =
    let S = g.S.Store in
    let some = some_steps c.args.steps.now c.is_empty.result c.is_empty.ensures c.if-is_empty.false in
    gate_run S.files S.may_leave S.moment S.left_since c.args.journal.now c.args.journal_path.now c.args.gate_path.now (c.requires.journal_is some) (c.requires.gate_is some) f (sides_of c.args.steps.now) c.args.store.now (c.requires.entries some) start told (g.met.S.Store.only_now c.args.store.now)
    c.write_synced.new.store c.write_synced.ensures.any_moment c.in_ok-write_synced.ensures.written c.in_ok-write_synced.ensures.durable
    c.write_synced-2.new.store c.write_synced-2.ensures.any_moment

pub returns-in_err-take_steps_synced-clause-any_moment : goal.returns-in_err-take_steps_synced-clause-any_moment
returns-in_err-take_steps_synced-clause-any_moment g c f told start =
    let S = g.S.Store in
    let some = some_steps c.args.steps.now c.is_empty.result c.is_empty.ensures c.if-is_empty.false in
    steps_run S.files S.may_leave S.moment S.left_since c.args.journal.now c.args.journal_path.now c.args.gate_path.now (c.requires.journal_is some) (c.requires.gate_is some) f (sides_of c.args.steps.now) c.args.store.now (c.requires.entries some) start told (g.met.S.Store.only_now c.args.store.now)
    c.write_synced.new.store c.write_synced.ensures.any_moment c.in_ok-write_synced.ensures.written c.in_ok-write_synced.ensures.durable
    c.write_synced-2.new.store c.write_synced-2.ensures.any_moment c.in_ok-write_synced-2.ensures.written c.in_ok-write_synced-2.ensures.durable
    c.take_steps_synced.new.store c.take_steps_synced.ensures.any_moment

pub returns-clause-any_moment : goal.returns-clause-any_moment
returns-clause-any_moment g c f told start =
    let S = g.S.Store in
    let some = some_steps c.args.steps.now c.is_empty.result c.is_empty.ensures c.if-is_empty.false in
    close_run S.files S.may_leave S.moment S.left_since c.args.journal.now c.args.journal_path.now c.args.gate_path.now (c.requires.journal_is some) (c.requires.gate_is some) f (sides_of c.args.steps.now) c.args.store.now (c.requires.entries some) start told (g.met.S.Store.only_now c.args.store.now)
    c.write_synced.new.store c.write_synced.ensures.any_moment c.in_ok-write_synced.ensures.written c.in_ok-write_synced.ensures.durable
    c.write_synced-2.new.store c.write_synced-2.ensures.any_moment c.in_ok-write_synced-2.ensures.written c.in_ok-write_synced-2.ensures.durable
    c.take_steps_synced.new.store c.take_steps_synced.ensures.any_moment c.in_ok-take_steps_synced.ensures.taken c.in_ok-take_steps_synced.ensures.durable
    c.remove_synced.new.store c.remove_synced.ensures.any_moment

pub returns-clause-done : goal.returns-clause-done
returns-clause-done g c =
    let S = g.S.Store in
    let some = some_steps c.args.steps.now c.is_empty.result c.is_empty.ensures c.if-is_empty.false in
    on_ok_both c.remove_synced.result (λ removed durable f told start image left.
    ended S.files S.may_leave S.moment S.left_since c.args.journal.now c.args.journal_path.now c.args.gate_path.now (c.requires.journal_is some) (c.requires.gate_is some) f (sides_of c.args.steps.now) c.args.store.now (c.requires.entries some) start told (g.met.S.Store.only_now c.args.store.now)
    c.write_synced.new.store c.write_synced.ensures.any_moment c.in_ok-write_synced.ensures.written c.in_ok-write_synced.ensures.durable
    c.write_synced-2.new.store c.write_synced-2.ensures.any_moment c.in_ok-write_synced-2.ensures.written c.in_ok-write_synced-2.ensures.durable
    c.take_steps_synced.new.store c.take_steps_synced.ensures.any_moment c.in_ok-take_steps_synced.ensures.taken c.in_ok-take_steps_synced.ensures.durable
    c.remove_synced.new.store c.remove_synced.ensures.any_moment removed durable image left) c.remove_synced.ensures.removed c.remove_synced.ensures.durable

pub returns-clause-steps : goal.returns-clause-steps
returns-clause-steps g c =
    let S = g.S.Store in
    let some = some_steps c.args.steps.now c.is_empty.result c.is_empty.ensures c.if-is_empty.false in
    on_ok_weaker c.remove_synced.result
    (all_done (S.files c.args.store.now) (S.files c.write_synced.new.store) (S.files c.write_synced-2.new.store) (S.files c.take_steps_synced.new.store) (S.files c.remove_synced.new.store) c.args.journal.now c.args.journal_path.now c.args.gate_path.now (sides_of c.args.steps.now) (c.requires.journal_is some) (c.requires.gate_is some) c.in_ok-write_synced.ensures.written c.in_ok-write_synced-2.ensures.written c.in_ok-take_steps_synced.ensures.taken)
    c.remove_synced.ensures.removed

pub returns-clause-journal : goal.returns-clause-journal
returns-clause-journal g c =
    let S = g.S.Store in
    let some = some_steps c.args.steps.now c.is_empty.result c.is_empty.ensures c.if-is_empty.false in
    on_ok_weaker c.remove_synced.result
    (λ removed _. journal_kept (S.files c.args.store.now) (S.files c.write_synced.new.store) (S.files c.write_synced-2.new.store) (S.files c.take_steps_synced.new.store) (S.files c.remove_synced.new.store) c.args.journal.now c.args.journal_path.now c.args.gate_path.now (sides_of c.args.steps.now) (c.requires.journal_is some) (c.requires.gate_is some)
    (journal_off c.args.journal.now (sides_of c.args.steps.now) (c.requires.entries some)) c.in_ok-write_synced.ensures.written c.in_ok-write_synced-2.ensures.written c.in_ok-take_steps_synced.ensures.taken removed)
    c.remove_synced.ensures.removed
