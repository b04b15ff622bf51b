use Rattle.std.proofs.Common.{sym, refl, ◌∙◌, subst, IfOk, None}
use Rattle.jr_spelling_rules.specs.Candidates.{target}
use Rattle.jr_spell.specs.declared.reference.Form.TheVariants as form
use Rattle.jr_spell.specs.Forming.{by_form}
use Rattle.jr_spell.specs.Shaping.{IsFirstOf, IsFitOf}
use Rattle.jr_spell.specs.Spellers.{rows_of, table_of}
use Rattle.jr_spell.proofs.Formed.{uncalled_form}
use Rattle.jr_spell.proofs.Shaped.{form_of}
use Rattle.jr_spell.proofs.speller.Speller.reshaped.Goals as goal

pub returns-in-Fixed : goal.returns-in-Fixed
returns-in-Fixed c = λ given whole sought gives. let s = c.args.self.now in let r = c.args.reference.now in
    subst (λ f. IsFirstOf s r.row (by_form (rows_of s) (table_of s) given r.row f) None) (sym c.in-Fixed.is) IsFitOf.none

pub returns-in-OfType : goal.returns-in-OfType
returns-in-OfType c = λ given whole sought gives. let s = c.args.self.now in let r = c.args.reference.now in
    subst (λ f. IfOk c.type_fit.result (λ o. IsFirstOf s r.row (by_form (rows_of s) (table_of s) given r.row f) o)) (sym c.in-OfType.is) (c.type_fit.ensures given whole sought (uncalled_form (rows_of s) (table_of s) r.row (target (table_of s r.row)) r.sought form.OfType (sym c.in-OfType.is ∙ form_of s r sought) refl))

pub returns-in-Import : goal.returns-in-Import
returns-in-Import c = λ given whole sought gives. let s = c.args.self.now in let r = c.args.reference.now in
    subst (λ f. IfOk c.import_fit.result (λ o. IsFirstOf s r.row (by_form (rows_of s) (table_of s) given r.row f) o)) (sym c.in-Import.is) (c.import_fit.ensures given whole sought (uncalled_form (rows_of s) (table_of s) r.row (target (table_of s r.row)) r.sought form.Import (sym c.in-Import.is ∙ form_of s r sought) refl))

pub returns-in-Instance : goal.returns-in-Instance
returns-in-Instance c = λ given whole sought gives. let s = c.args.self.now in let r = c.args.reference.now in
    subst (λ f. IfOk c.instance_fit.result (λ o. IsFirstOf s r.row (by_form (rows_of s) (table_of s) given r.row f) o)) (sym c.in-Instance.is) (c.instance_fit.ensures given whole sought gives)

pub returns-in-Static : goal.returns-in-Static
returns-in-Static c = λ given whole sought gives. let s = c.args.self.now in let r = c.args.reference.now in
    subst (λ f. IfOk c.static_fit.result (λ o. IsFirstOf s r.row (by_form (rows_of s) (table_of s) given r.row f) o)) (sym c.in-Static.is) (c.static_fit.ensures given whole sought gives)

pub returns-in-Behind : goal.returns-in-Behind
returns-in-Behind c = λ given whole sought gives. let s = c.args.self.now in let r = c.args.reference.now in
    subst (λ f. IfOk c.on_cast.result (λ o. IsFirstOf s r.row (by_form (rows_of s) (table_of s) given r.row f) o)) (sym c.in-Behind.is) (c.on_cast.ensures given whole sought gives)

pub returns-in-Super : goal.returns-in-Super
returns-in-Super c = λ given whole sought gives. let s = c.args.self.now in let r = c.args.reference.now in
    subst (λ f. IfOk c.super_fit.result (λ o. IsFirstOf s r.row (by_form (rows_of s) (table_of s) given r.row f) o)) (sym c.in-Super.is) (c.super_fit.ensures given whole sought (uncalled_form (rows_of s) (table_of s) r.row (target (table_of s r.row)) r.sought form.Super (sym c.in-Super.is ∙ form_of s r sought) refl))
