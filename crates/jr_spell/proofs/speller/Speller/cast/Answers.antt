use Rattle.std.proofs.Common.{◌∙◌, sym, ap, subst, Some, IfOk, option_map}
use Rattle.jr_spelling_rules.specs.Spelling.{some_types}
use Rattle.jr_spell.specs.Spelling.{IsWritten}
use Rattle.jr_spell.proofs.Casting.{cast_some, cast_none}
use Rattle.jr_spell.proofs.speller.Speller.cast.Goals as goal

pub returns-in-Some-clause-first : goal.returns-in-Some-clause-first
returns-in-Some-clause-first c = λ whole sought exact. let s = c.args.self.now in let r = c.args.reference.now in
    subst (λ q. IfOk c.cast_to.result (λ o. IsWritten r.row o q)) (cast_some s r.row r.lock sought.at_row.lock_is c.deref.result.now (c.in_ok-parameters.ensures whole)
    (ap (option_map (λ all. all.items)) c.in-Some.is ∙ ap Some (sym c.deref.ensures.value))) (c.cast_to.ensures.first whole sought exact)

pub returns-in-None-clause-first : goal.returns-in-None-clause-first
returns-in-None-clause-first c = λ whole sought exact. let s = c.args.self.now in let r = c.args.reference.now in
    cast_none s r.row r.lock sought.at_row.lock_is (c.in_ok-parameters.ensures whole) (ap (option_map (λ all. all.items)) c.in-None.is)
