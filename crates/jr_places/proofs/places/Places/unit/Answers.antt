use Rattle.std.proofs.Common.{◌∙◌, ap, None}
use Rattle.std.specs.Prelude.{slice_index_or}
use Rattle.jr_places.proofs.Inside.{unit_at}
use Rattle.jr_places.proofs.places.Places.unit.Goals as goal

pub returns-clause-holds : goal.returns-clause-holds
returns-clause-holds c = λ p places local. c.item.ensures ∙ ap (λ all. slice_index_or all c.args.at None) (c.deref.ensures.value ∙ places.units_are) ∙ unit_at p local c.args.at
