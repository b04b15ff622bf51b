use Rattle.std.proofs.Common.{◌≡◌, []}
use Rattle.std.specs.HashMap.{IsEmpty}
use Rattle.jr_flow.proofs.Locating.{none_located}
use Rattle.jr_flow.proofs.locations.Locations.new.Goals as goal

pub returns-clause-right : goal.returns-clause-right
returns-clause-right c = let empty : IsEmpty c.new.result = search in let none : c.new-2.result.items ≡ [] = search in none_located (record { numbers = c.new.result; all = c.new-2.result }) empty none
