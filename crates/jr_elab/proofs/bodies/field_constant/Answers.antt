use Rattle.std.proofs.Common.{sym, ◌∙◌, ap}
use Rattle.std.proofs.lemmas.Result.{IfOk-weaker}
use Rattle.jr_constants.specs.Values.{value_in_if}
use Rattle.jr_codes.specs.Reads.{texts_of}
use Rattle.jr_elab.proofs.bodies.field_constant.Goals as goal

pub returns-in-Some : goal.returns-in-Some
returns-in-Some c = IfOk-weaker c.some_constant.result _ _ (λ made is. is ∙ ap (value_in_if (texts_of c.args.source.now)) (sym c.in-Some.is ∙ c.variable.ensures)) c.some_constant.ensures

pub returns-in-None : goal.returns-in-None
returns-in-None c = ap (value_in_if (texts_of c.args.source.now)) (sym c.in-None.is ∙ c.variable.ensures)
