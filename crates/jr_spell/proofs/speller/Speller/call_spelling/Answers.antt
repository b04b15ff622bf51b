use Rattle.std.proofs.Common.{◌≡◌, ◌∙◌, sym, ap, subst, Some}
use Rattle.std.specs.Prelude.{IfSome}
use Rattle.std.proofs.lemmas.Result.{IfOk-weaker}
use Rattle.jr_spelling_rules.specs.Candidates as candidate
use Rattle.jr_spell.proofs.Casting.{whole_front, whole_behind}
use Rattle.jr_spell.proofs.speller.Speller.call_spelling.Goals as goal

pub returns-in-Some-clause-row : goal.returns-in-Some-clause-row
returns-in-Some-clause-row c = subst (λ o. IfSome o (λ a. a.row ≡ c.args.reference.now.row)) c.in-Some.is c.in_ok-uncast.ensures.row

pub returns-in-Some-clause-first : goal.returns-in-Some-clause-first
returns-in-Some-clause-first c = λ whole sought call exact. let s = c.args.self.now in let r = c.args.reference.now in
    whole_front s r.row (sym (ap candidate.is_call sought.at_row.sought_is) ∙ call) (c.in_ok-uncast.ensures.first whole sought call exact) c.in-Some.spelling c.in-Some.is

pub returns-in-None-clause-first : goal.returns-in-None-clause-first
returns-in-None-clause-first c = λ whole sought call exact. let s = c.args.self.now in let r = c.args.reference.now in
    IfOk-weaker c.cast_here.result _ _ (λ o h. whole_behind s r.row (sym (ap candidate.is_call sought.at_row.sought_is) ∙ call) (c.in_ok-uncast.ensures.first whole sought call exact) c.in-None.is o h)
    (c.cast_here.ensures.first whole sought exact)
