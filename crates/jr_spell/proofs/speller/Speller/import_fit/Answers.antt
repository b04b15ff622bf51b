use Rattle.std.proofs.Common.{◌∙◌, sym, ap, subst, IfOk, None, true}
use Rattle.jr_spelling_rules.specs.Candidates.{target}
use Rattle.jr_spell.specs.Shaping.{IsFirstOf, IsFitOf}
use Rattle.jr_spell.specs.Spellers.{rows_of, table_of}
use Rattle.jr_spell.proofs.Formed.{type_is, no_type}
use Rattle.jr_spell.proofs.speller.Speller.import_fit.Goals as goal

pub returns-in-Some : goal.returns-in-Some
returns-in-Some c = λ given whole sought uncalled. let s = c.args.self.now in let r = c.args.reference.now in let is = sym c.target.ensures ∙ c.in-Some.is in
    subst (λ all. IfOk c.whole_name.result (λ o. IsFirstOf s r.row all o)) (sym (type_is (rows_of s) (table_of s) given r.row c.in-Some.class (ap target (sym sought.at_row.lock_is) ∙ is) true))
    (c.whole_name.ensures given whole sought uncalled (sought.target_there c.in-Some.class is))

pub returns-in-None : goal.returns-in-None
returns-in-None c = λ given whole sought uncalled. let s = c.args.self.now in let r = c.args.reference.now in
    subst (λ all. IsFirstOf s r.row all None) (sym (no_type (rows_of s) (table_of s) given r.row (ap target (sym sought.at_row.lock_is) ∙ sym c.target.ensures ∙ c.in-None.is) true)) IsFitOf.none
