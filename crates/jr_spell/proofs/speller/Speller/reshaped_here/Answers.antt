use Rattle.std.proofs.Common.{◌∙◌, sym, ap, subst, IfOk, None}
use Rattle.jr_spell.specs.Forming.{by_form}
use Rattle.jr_spell.specs.Shaping.{IsFirstOf, IsFitOf}
use Rattle.jr_spell.specs.Spellers.{rows_of, table_of}
use Rattle.jr_spell.proofs.Formed.{by_form_is}
use Rattle.jr_spell.proofs.Shaped.{others_gone, others_there}
use Rattle.jr_spell.proofs.speller.Speller.reshaped_here.Goals as goal

pub returns-then-is_prelude : goal.returns-then-is_prelude
returns-then-is_prelude c = λ given whole sought gives. let s = c.args.self.now in let r = c.args.reference.now in
    subst (λ all. IsFirstOf s r.row all None) (others_gone (rows_of s) (table_of s) given r.row s.written (sym c.is_prelude.ensures ∙ c.if-is_prelude.true)) IsFitOf.none

pub returns : goal.returns
returns c = λ given whole sought gives. let s = c.args.self.now in let r = c.args.reference.now in
    subst (λ all. IfOk c.reshaped.result (λ o. IsFirstOf s r.row all o))
    (ap (by_form (rows_of s) (table_of s) given r.row) sought.form_is ∙ by_form_is (rows_of s) (table_of s) given r.row ∙ others_there (rows_of s) (table_of s) given r.row s.written (sym c.is_prelude.ensures ∙ c.if-is_prelude.false))
    (c.reshaped.ensures given whole sought gives)
