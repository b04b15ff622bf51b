use Rattle.std.proofs.Common.{refl}
use Rattle.jr_gather.specs.Gathering.{HoldsFiles, IsFirstTooLarge}
use Rattle.jr_top.specs.Decisions.{on_files, is_too_large}
use Rattle.jr_top.proofs.Outcomes.{for_told}
use Rattle.jr_top.proofs.engine.decide_all.Goals as goal

pub returns-in-Ok-Files-clause-decision : goal.returns-in-Ok-Files-clause-decision
returns-in-Ok-Files-clause-decision g c =
    let found = c.in-Ok-Files.found in
    on_files {found = found} (for_told (g.S.Store.files c.args.store.now) (λ files. HoldsFiles files found) (λ f is. rw c.in-Ok-Files.field-0-is at (c.in-Ok-Files.ensures.found f is))) c.decide_files.ensures

pub returns-in-Ok-TooLarge-clause-decision : goal.returns-in-Ok-TooLarge-clause-decision
returns-in-Ok-TooLarge-clause-decision g c =
    let what = c.in-Ok-TooLarge.what in
    is_too_large {what = what} refl (for_told (g.S.Store.files c.args.store.now) (λ files. IsFirstTooLarge files what) (λ f is. rw c.in-Ok-TooLarge.field-0-is at (c.in-Ok-TooLarge.ensures.found f is)))
