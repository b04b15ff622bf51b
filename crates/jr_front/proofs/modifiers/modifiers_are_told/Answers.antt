use Rattle.jr_front.proofs.Allowing.{modifiers_told}
use Rattle.jr_front.proofs.modifiers.modifiers_are_told.Goals as goal

pub returns : goal.returns
returns c = modifiers_told
