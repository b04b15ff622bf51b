use Rattle.std.proofs.Common.{◌∙◌, ap₂}
use Rattle.jr_supers.specs.Signatures.{parameter_in}
use Rattle.jr_supers.proofs.Counted.{nth_parameter}
use Rattle.jr_supers.proofs.signatures.Signatures.parameter.Goals as goal

pub returns : goal.returns
returns c = λ p t h callable. c.parameter_in.ensures ∙ ap₂ (λ types s. parameter_in types c.args.nth s) c.deref.ensures.value c.signature.ensures ∙ nth_parameter p t c.args.self.now c.args.at c.args.nth h callable
