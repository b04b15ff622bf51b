use Rattle.jr_gen.proofs.Places.{are_places}
use Rattle.jr_gen.proofs.changes.requests.Goals as goal

pub returns-clause-places : goal.returns-clause-places
returns-clause-places c = are_places
