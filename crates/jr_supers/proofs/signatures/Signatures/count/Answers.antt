use Rattle.std.proofs.Common.{◌∙◌, ap, option_map}
use Rattle.jr_supers.proofs.Counted.{counted}
use Rattle.jr_supers.proofs.signatures.Signatures.count.Goals as goal

pub returns : goal.returns
returns c = λ p t h callable. c.count_of.ensures ∙ ap (option_map (λ s. s.count)) c.signature.ensures ∙ counted p t c.args.self.now c.args.at h callable
