use Rattle.std.proofs.Common.{◌≡◌, ◌∙◌, sym, ap, subst, true}
use Rattle.jr_plain.specs.Types.{parameters}
use Rattle.jr_tree.specs.Rows.{role_at}
use Rattle.jr_supers.specs.Signatures.{AreSignatures}
use Rattle.jr_supers.specs.Tabled.{is_callable}
use Rattle.jr_spell.specs.Spellers.{rows_of, table_of}
use Rattle.jr_spell.proofs.Casting.{uncounted}
use Rattle.jr_spell.proofs.speller.Speller.types_of_callable.Goals as goal

pub returns-in-Some : goal.returns-in-Some
returns-in-Some c = λ whole. let s = c.args.self.now in let p = rows_of s in let t = table_of s in
    let can : is_callable (role_at p c.args.target) ≡ true = ap is_callable (sym c.role_at.ensures) ∙ sym c.is_callable.ensures ∙ c.if-not-is_callable.false in
    c.first_types.ensures whole can (sym (c.count.ensures p t (subst (λ s. AreSignatures p t s) (sym c.signatures.ensures) whole.sight_is.world.members_are.signatures_are) can) ∙ c.in-Some.is)

pub returns-in-None : goal.returns-in-None
returns-in-None c = λ whole. let s = c.args.self.now in let p = rows_of s in let t = table_of s in
    let can : is_callable (role_at p c.args.target) ≡ true = ap is_callable (sym c.role_at.ensures) ∙ sym c.is_callable.ensures ∙ c.if-not-is_callable.false in
    uncounted (parameters p t c.args.target) (c.count.ensures p t (subst (λ s. AreSignatures p t s) (sym c.signatures.ensures) whole.sight_is.world.members_are.signatures_are) can) c.in-None.is
