use Rattle.std.proofs.Common.{◌≡◌, sym, ap, ◌∙◌, subst, refl, Some, None, IfOk}
use Rattle.jr_defs.specs.declared.referent.Element.TheVariants as element
use Rattle.jr_spelling_rules.specs.Spelling.{written_by}
use Rattle.jr_spell.specs.Spellers.{rows_of, table_of}
use Rattle.jr_spell.proofs.Casting.{plain_written}
use Rattle.jr_spell.proofs.speller.Speller.written_type.Goals as goal

pub returns-in-Class : goal.returns-in-Class
returns-in-Class c = λ whole inside. let s = c.args.self.now in
    subst (λ e. IfOk c.written_class.result (λ o. o ≡ written_by (rows_of s) (table_of s) c.args.place c.args.ty e)) (sym c.in-Class.is) (c.written_class.ensures whole inside)

pub returns-in-Null : goal.returns-in-Null
returns-in-Null c = λ whole inside. let s = c.args.self.now in sym (ap (written_by (rows_of s) (table_of s) c.args.place c.args.ty) c.in-Null.is)

pub returns-in-Void : goal.returns-in-Void
returns-in-Void c = λ whole inside. let s = c.args.self.now in sym (ap (written_by (rows_of s) (table_of s) c.args.place c.args.ty) c.in-Void.is)

pub returns-in_default : goal.returns-in_default
returns-in_default c = λ whole inside. let s = c.args.self.now in
    ap Some c.type_name.ensures ∙ plain_written (rows_of s) (table_of s) c.args.place c.args.ty c.args.ty.element c.in_default.not-Class c.in_default.not-Null c.in_default.not-Void
