use Rattle.std.proofs.Common.{◌∙◌, ap₂}
use Rattle.jr_supers.specs.Signatures.{same_numbers}
use Rattle.jr_supers.proofs.Signed.{same_signatures}
use Rattle.jr_supers.proofs.signatures.Signatures.are_same.Goals as goal

pub returns : goal.returns
returns c = λ p t h one other. c.same_numbers.ensures ∙ ap₂ same_numbers c.number.ensures c.number-2.ensures ∙ same_signatures p t c.args.self.now c.args.one c.args.other h one other
