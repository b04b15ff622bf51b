use Rattle.std.proofs.Common.{◌∙◌}
use Rattle.jr_constants.proofs.Adding.{texts_value_is}
use Rattle.jr_constants.proofs.texts.Texts.value.Goals as goal

pub returns-clause-exact : goal.returns-clause-exact
returns-clause-exact c = λ h. c.in_ok-value.ensures.exact ∙ texts_value_is c.args.op c.args.self.now c.args.left c.args.right h
