use Rattle.std.proofs.Common.{inl, sym, ◌∙◌, subst}
use Rattle.std.proofs.lemmas.Result.{on_ok_weaker}
use Rattle.jr_kept.specs.Listed.{under_in}
use Rattle.jr_kept.specs.Named.{origin_in}
use Rattle.jr_kept.specs.Carried.{IsOtherOf, IsCopyOf}
use Rattle.jr_kept.proofs.Leaving.{defines_like}
use Rattle.jr_kept.proofs.carried.put_value.Goals as goal

pub returns-in-Some-clause-only : goal.returns-in-Some-clause-only
returns-in-Some-clause-only c = let v = c.args.value in let copies = under_in c.args.copies.now in let origin = origin_in c.args.origin.now in let old = c.in-Some.old in
    on_ok_weaker c.put_others.result
    (λ only. defines_like c.args.made.now c.put_others.new.made c.args.hub (IsOtherOf v c.under.result.now) (IsCopyOf v copies origin)
    (λ r l o. record { old = old; is = sym c.row_for.ensures ∙ c.in-Some.is; other = subst (λ xs. IsOtherOf v xs r l) c.under.ensures o }) only) c.put_others.ensures.only

pub returns-in-None-clause-only : goal.returns-in-None-clause-only
returns-in-None-clause-only c = λ i j t h. inl h
