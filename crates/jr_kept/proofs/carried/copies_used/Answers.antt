use Rattle.std.proofs.Common.{◌≡◌, sym, ◌∙◌, ap, subst}
use Rattle.std.specs.List.{Contains}
use Rattle.std.proofs.lemmas.Result.{IfOk-weaker}
use Rattle.jr_kept.specs.Listed.{under_in}
use Rattle.jr_kept.specs.Named.{origin_in}
use Rattle.jr_kept.specs.Carried.{pairs_by}
use Rattle.jr_kept.proofs.Carrying.{are_copies}
use Rattle.jr_kept.proofs.Leaving.{pairs_out}
use Rattle.jr_kept.proofs.carried.copies_used.Goals as goal

pub returns-clause-every : goal.returns-clause-every
returns-clause-every c = let origin = origin_in c.args.origin.now in let locals = c.in_ok-locals.locals.all.items in
    let pairs : c.deref.result.now ≡ pairs_by origin locals = c.deref.ensures.value ∙ c.in_ok-pairs.ensures ∙ ap (pairs_by origin) c.rows.ensures in
    IfOk-weaker c.of_all.result _ _ (λ copies under. are_copies c.args.points.now origin locals (under_in copies) c.in_ok-locals.ensures (λ k j h. under k j (subst (λ xs. Contains xs (k, j)) (sym pairs) h))) c.of_all.ensures.every

pub returns-clause-only : goal.returns-clause-only
returns-clause-only c = let origin = origin_in c.args.origin.now in let locals = c.in_ok-locals.locals.all.items in
    let pairs : c.deref.result.now ≡ pairs_by origin locals = c.deref.ensures.value ∙ c.in_ok-pairs.ensures ∙ ap (pairs_by origin) c.rows.ensures in
    IfOk-weaker c.of_all.result _ _ (λ copies under old copy h. pairs_out origin locals old copy (subst (λ xs. Contains xs (old, copy)) pairs (under old copy h))) c.of_all.ensures.only
