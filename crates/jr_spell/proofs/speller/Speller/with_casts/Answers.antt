use Rattle.std.proofs.Common.{subst, refl, Some, IfOk}
use Rattle.jr_spell.specs.Spelling.{IsWritten}
use Rattle.jr_spell.proofs.Casting.{fit_is, casts_first, casts_away}
use Rattle.jr_spell.proofs.speller.Speller.with_casts.Goals as goal

pub returns-in-Some-clause-first : goal.returns-in-Some-clause-first
returns-in-Some-clause-first c = λ whole sought exact. let s = c.args.self.now in let r = c.args.reference.now in let all = c.args.parameters.now in
    let it = fit_is s r.row (c.in_ok-fit.ensures (Some all) whole sought (λ called. refl) exact) c.in-Some.found c.in-Some.is in
    subst (λ q. IfOk c.cast_fit.result (λ o. IsWritten r.row o q)) (casts_first s r.row all it.0 it.1) (c.cast_fit.ensures.first it.0 whole sought it.2)

pub returns-in-None-clause-first : goal.returns-in-None-clause-first
returns-in-None-clause-first c = λ whole sought exact. let s = c.args.self.now in let r = c.args.reference.now in let all = c.args.parameters.now in
    casts_away s r.row all (c.in_ok-fit.ensures (Some all) whole sought (λ called. refl) exact) c.in-None.is
