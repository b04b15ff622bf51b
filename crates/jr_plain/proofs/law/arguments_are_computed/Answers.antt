use Rattle.jr_defs.specs.Laws.{Picked}
use Rattle.jr_plain.proofs.Overloaded.{arguments_find}
use Rattle.jr_plain.proofs.law.arguments_are_computed.Goals as goal

pub returns : goal.returns
returns c = record { arguments = λ p t k type_of tree typed n first lt. arguments_find p t (Picked k) type_of typed n tree first lt }
