use Rattle.std.proofs.Common.{◌∙◌}
use Rattle.jr_places.proofs.places.Places.spelled.Goals as goal

pub returns : goal.returns
returns c = λ places local named few lt. c.spelled.ensures (c.deref.ensures.value ∙ places.names) few local.tree lt
