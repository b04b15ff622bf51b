use Rattle.std.proofs.Common.{List, ℕ, Some, sym, subst}
use Rattle.jr_request.specs.declared.command.Command.TheVariants.{Check}
use Rattle.jr_top.specs.Checking.{Checks}
use Rattle.jr_top.specs.declared.status.Status.{Status}
use Rattle.jr_top.specs.declared.status.Status.TheVariants.{TooLarge}
use Rattle.jr_top.proofs.CheckAnswers.{oversized_said, fronted_said}
use Rattle.jr_top.proofs.check.check.Goals as goal

pub returns-in-Ok-Files-clause-answer : goal.returns-in-Ok-Files-clause-answer
returns-in-Ok-Files-clause-answer g c =
    let S = g.S.Store in
    fronted_said (S.files c.args.store.now) (S.faults c.args.store.now) (S.faults c.gather.new.store) _ (λ f is. rw c.in-Ok-Files.field-0-is at (c.in-Ok-Files.ensures.found f is)) c.judge.result.paths.items
    c.judge.result.status c.judge.ensures

pub returns-in-Ok-TooLarge-clause-answer : goal.returns-in-Ok-TooLarge-clause-answer
returns-in-Ok-TooLarge-clause-answer g c =
    let S = g.S.Store in
    let told = S.files c.args.store.now in
    let before = S.faults c.args.store.now in
    let after = S.faults c.gather.new.store in
    let what = c.in-Ok-TooLarge.what in
    subst (λ (s : Status). Checks (Some Check) told c.plainly.result.paths.items before after s) (sym c.plainly.ensures.status)
    (subst (λ (paths : List (List ℕ)). Checks (Some Check) told paths before after (TooLarge what 0)) (sym c.plainly.ensures.paths)
    (oversized_said told before after what (λ f is. rw c.in-Ok-TooLarge.field-0-is at (c.in-Ok-TooLarge.ensures.found f is))))
