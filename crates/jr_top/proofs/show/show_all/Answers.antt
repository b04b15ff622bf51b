use Rattle.std.proofs.Common.{List, ℕ, sym, subst}
use Rattle.jr_top.specs.Checking.{Checks}
use Rattle.jr_top.specs.declared.status.Status.{Status}
use Rattle.jr_top.specs.declared.status.Status.TheVariants.{TooLarge}
use Rattle.jr_top.proofs.CheckAnswers.{shown_size, showed_said}
use Rattle.jr_top.proofs.Shown.{no_check}
use Rattle.jr_top.proofs.show.show_all.Goals as goal

pub returns-in-Ok-Files-clause-answer : goal.returns-in-Ok-Files-clause-answer
returns-in-Ok-Files-clause-answer g c asked is =
    let S = g.S.Store in
    showed_said asked (no_check asked _ is) (S.files c.args.store.now) (S.faults c.args.store.now) (S.faults c.gather.new.store) _ (λ f told_is. rw c.in-Ok-Files.field-0-is at (c.in-Ok-Files.ensures.found f told_is)) c.shown.result.paths.items
    c.shown.result.status (c.shown.ensures asked is)

pub returns-in-Ok-TooLarge-clause-answer : goal.returns-in-Ok-TooLarge-clause-answer
returns-in-Ok-TooLarge-clause-answer g c asked is =
    let S = g.S.Store in
    let told = S.files c.args.store.now in
    let before = S.faults c.args.store.now in
    let after = S.faults c.gather.new.store in
    let what = c.in-Ok-TooLarge.what in
    subst (λ (s : Status). Checks asked told c.plainly.result.paths.items before after s) (sym c.plainly.ensures.status)
    (subst (λ (paths : List (List ℕ)). Checks asked told paths before after (TooLarge what 0)) (sym c.plainly.ensures.paths)
    (shown_size asked (no_check asked _ is) told before after what (λ f told_is. rw c.in-Ok-TooLarge.field-0-is at (c.in-Ok-TooLarge.ensures.found f told_is))))
