use Rattle.std.proofs.Common.{◌∙◌}
use Rattle.jr_places.proofs.Naming.{named_at}
use Rattle.jr_places.proofs.places.Places.name.Goals as goal

pub returns : goal.returns
returns c = λ p h lt. c.name_in.ensures ∙ named_at p _ c.args.at (c.deref.ensures.value ∙ h.names) lt
