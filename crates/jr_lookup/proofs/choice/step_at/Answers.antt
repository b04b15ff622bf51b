use Rattle.std.proofs.Common.{◌≡◌, ◌∙◌, sym, ap, subst, length}
use Rattle.jr_places.specs.Chains.{rows_under}
use Rattle.jr_supers.specs.Direct.{FallsFrom}
use Rattle.jr_lookup.specs.Choices.{IsLastWith, step_by, IsStep}
use Rattle.jr_lookup.proofs.Ordering.{step_is}
use Rattle.jr_lookup.proofs.choice.step_at.Goals as goal

pub returns : goal.returns
returns c = λ t h. let p = c.args.world.under.rows.now in let above = h.seen.above in let all = c.in_ok-direct.direct.items in
    let listed : all ≡ _ = c.in_ok-direct.ensures ∙ ap (λ es. rows_under es c.args.over 0 (length es)) c.direct.ensures in
    let falls = subst (λ xs. FallsFrom p t c.args.over (length p) xs) (sym listed) (above.direct.falls c.args.over) in
    subst (λ s. IsStep p t c.args.over c.args.one c.args.other s) (sym (c.step_by.ensures ∙ ap (λ xs. step_by xs c.in_ok-first.first c.in_ok-second.second) c.deref-3.ensures.value))
    (step_is p t c.args.over above.well all falls c.args.one c.args.other _ _
    (subst (λ xs. IsLastWith p t xs c.args.one (length xs) c.in_ok-first.first) c.deref.ensures.value (c.in_ok-first.ensures t h))
    (subst (λ xs. IsLastWith p t xs c.args.other (length xs) c.in_ok-second.second) c.deref-2.ensures.value (c.in_ok-second.ensures t h)))
