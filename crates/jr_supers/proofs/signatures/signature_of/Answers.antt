use Rattle.std.proofs.Common.{◌≡◌, sym, ◌∙◌, ap, Some, true}
use Rattle.std.specs.Prelude.{option_map}
use Rattle.jr_tree.specs.Rows.{role_at}
use Rattle.jr_supers.specs.Tabled.{is_callable}
use Rattle.jr_supers.proofs.Signing.{adds_none, adds_one}
use Rattle.jr_supers.proofs.signatures.signature_of.Goals as goal

pub returns-in-None : goal.returns-in-None
returns-in-None c = λ sized places one lt. adds_none _ _ _ _ one (λ callable. sym (c.in_ok-own.ensures sized lt) ∙ ap (option_map (λ all. all.items)) c.in-None.is)

pub returns-in_ok-added-in-Some : goal.returns-in_ok-added-in-Some
returns-in_ok-added-in-Some c = λ sized places one lt. let p = c.args.under.rows.now in let callable : is_callable (role_at p c.args.at) ≡ true = ap is_callable (sym c.role_at.ensures) ∙ sym c.is_callable.ensures ∙ c.if-not-is_callable.false in
    adds_one _ _ c.args.at c.in_ok-added-in-Some.added callable (sym (c.in_ok-own.ensures sized lt) ∙ ap (option_map (λ all. all.items)) c.in-Some.is ∙ ap Some (sym c.deref.ensures.value))
    (c.name.ensures p places lt) (c.in_ok-added-in-Some.ensures one)
