use Rattle.std.proofs.Common.{◌∙◌, sym, ap, refl, subst, Some, IfOk, option_map}
use Rattle.jr_spelling_rules.specs.Candidates as candidate
use Rattle.jr_spell.specs.Spelling.{IsWritten}
use Rattle.jr_spell.proofs.Casting.{uncast_some, uncast_none}
use Rattle.jr_spell.proofs.speller.Speller.uncast.Goals as goal

pub returns-in-Some-clause-first : goal.returns-in-Some-clause-first
returns-in-Some-clause-first c = λ whole sought call exact. let s = c.args.self.now in let r = c.args.reference.now in
    let said = ap (option_map (λ all. all.items)) c.in-Some.is ∙ ap Some (sym c.deref.ensures.value) in
    subst (λ q. IfOk c.spelling_with.result (λ o. IsWritten r.row o q)) (uncast_some s r.row (sym (ap candidate.is_call sought.at_row.sought_is) ∙ call) c.deref.result.now (c.in_ok-arguments.ensures whole sought) said)
    (c.spelling_with.ensures.first (Some c.deref.result.now) whole sought (λ called. refl) exact)

pub returns-in-None-clause-first : goal.returns-in-None-clause-first
returns-in-None-clause-first c = λ whole sought call exact. let s = c.args.self.now in let r = c.args.reference.now in
    uncast_none s r.row (sym (ap candidate.is_call sought.at_row.sought_is) ∙ call) (c.in_ok-arguments.ensures whole sought) (ap (option_map (λ all. all.items)) c.in-None.is)
