use Rattle.std.proofs.Common.{refl, sym, ◌∙◌, ap}
use Rattle.std.proofs.lemmas.Option.{none-some}
use Rattle.std.proofs.lemmas.Result.{IfOk-weaker}
use Rattle.jr_tree.specs.declared.label.Role.TheVariants as role
use Rattle.jr_tree.specs.Rows.{role_at}
use Rattle.jr_plain.proofs.Same.{role_tells}
use Rattle.jr_members.specs.Keys.{signature_number}
use Rattle.jr_member_faults.specs.Views.{rows_of}
use Rattle.jr_member_faults.proofs.Chained.{refutes}
use Rattle.jr_member_faults.proofs.Nearing.{apart_none, apart_unsigned, apart_by}
use Rattle.jr_member_faults.proofs.redefining.Uppers.set_apart.Goals as goal

pub returns-then-not-is_method-clause-signed : goal.returns-then-not-is_method-clause-signed
returns-then-not-is_method-clause-signed c = refl

pub returns-then-not-is_method-clause-kept : goal.returns-then-not-is_method-clause-kept
returns-then-not-is_method-clause-kept c = λ h th d. let w = c.args.redefining.world.now in apart_none w c.args.row _ (refutes (role_tells (role_at (rows_of w) c.args.row) role.Method) (sym c.is_method.ensures ∙ c.if-not-is_method.true))

pub returns-in-Some-clause-signed : goal.returns-in-Some-clause-signed
returns-in-Some-clause-signed c = c.set_number_apart.ensures.signed

pub returns-in-Some-clause-kept : goal.returns-in-Some-clause-kept
returns-in-Some-clause-kept c = λ h th d. let w = c.args.redefining.world.now in IfOk-weaker c.set_number_apart.result _ _
    (λ u told. apart_by w c.in-Some.number c.args.row _ _ (ap (λ s. signature_number s c.args.row) (sym c.signatures.ensures) ∙ sym c.number.ensures ∙ c.in-Some.is) told)
    (c.set_number_apart.ensures.kept h th d ((role_tells (role_at (rows_of w) c.args.row) role.Method).0 (sym c.is_method.ensures ∙ c.if-not-is_method.false)))

pub returns-in-None-clause-signed : goal.returns-in-None-clause-signed
returns-in-None-clause-signed c = refl

pub returns-in-None-clause-kept : goal.returns-in-None-clause-kept
returns-in-None-clause-kept c = λ h th d. apart_unsigned c.args.redefining.world.now c.args.row _
    (λ x e. none-some x (sym (ap (λ s. signature_number s c.args.row) (sym c.signatures.ensures) ∙ sym c.number.ensures ∙ c.in-None.is) ∙ e))
