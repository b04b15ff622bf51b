use Rattle.std.proofs.Common.{◌∙◌, ap, ◌∷◌, []}
use Rattle.std.proofs.lemmas.Result.{IfOk-weaker}
use Rattle.jr_elab.proofs.bodies.initialization_of.Goals as goal

pub returns : goal.returns
returns c = IfOk-weaker c.single.result _ _ (λ all one. one ∙ ap (λ x. x ∷ []) c.in_ok-code.ensures) c.single.ensures
