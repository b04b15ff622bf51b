use Rattle.std.proofs.Common.{subst, IfOk, sym, ◌∙◌, None}
use Rattle.jr_spell.specs.Shaping.{IsFirstOf, IsFitOf}
use Rattle.jr_spell.specs.Spellers.{rows_of, table_of}
use Rattle.jr_spell.proofs.ByObject.{type_is, type_none, declaring_within}
use Rattle.jr_spell.proofs.speller.Speller.on_type.Goals as goal

pub returns-in-Some : goal.returns-in-Some
returns-in-Some c = λ given whole sought gives. let s = c.args.self.now in let p = rows_of s in let t = table_of s in let r = c.args.reference.now in let is = c.declaring.ensures sought.at_row in
    subst (λ all. IfOk c.by_type.result (λ o. IsFirstOf s r.row all o)) (type_is p t given r.row c.declaring.result is c.in-Some.class c.in-Some.is)
    (c.by_type.ensures given whole sought gives (declaring_within p t r.row c.in-Some.class (sym is ∙ c.in-Some.is)))

pub returns-in-None : goal.returns-in-None
returns-in-None c = λ given whole sought gives. let s = c.args.self.now in let r = c.args.reference.now in
    subst (λ all. IsFirstOf s r.row all None) (type_none (rows_of s) (table_of s) given r.row c.declaring.result (c.declaring.ensures sought.at_row) c.in-None.is) IsFitOf.none
