use Rattle.std.proofs.Common.{subst, true, false}
use Rattle.std.proofs.lemmas.Result.{on_ok_weaker}
use Rattle.jr_kept.specs.Listed.{under_in}
use Rattle.jr_kept.specs.Named.{origin_in}
use Rattle.jr_kept.specs.Carried.{AreCopies}
use Rattle.jr_kept.proofs.Carrying.{unlost_both}
use Rattle.jr_kept.proofs.carried.put_lost_values.Goals as goal

pub returns-clause-checks : goal.returns-clause-checks
returns-clause-checks c = λ within exits wide. let method = c.args.method.now in let whole = c.args.flows.now.after.now in let origin = origin_in c.args.flows.now.origin.now in
    let are : AreCopies whole.points.items origin (under_in c.in_ok-copies.copies) = subst (λ ps. AreCopies ps origin (under_in c.in_ok-copies.copies)) c.as_slice.ensures.value c.in_ok-copies.ensures.every in
    on_ok_weaker c.put_lost_by-2.result
    (λ checks none. let later = checks none in let early = c.in_ok-put_lost_by.ensures.checks within exits wide are later.0 in (early.0, unlost_both method whole c.args.handing.now origin early.1 later.1))
    (c.put_lost_by-2.ensures.checks within exits wide are)

pub returns-clause-kept : goal.returns-clause-kept
returns-clause-kept c = λ within exits wide.
    on_ok_weaker c.put_lost_by-2.result
    (λ kept none unlost. kept (c.in_ok-put_lost_by.ensures.kept within exits wide c.in_ok-copies.ensures.only none (unlost false)) (unlost true))
    (c.put_lost_by-2.ensures.kept within exits wide c.in_ok-copies.ensures.only)
