use Rattle.std.proofs.Common.{◌≡◌, []}
use Rattle.std.specs.HashMap.{IsEmpty}
use Rattle.jr_flow.proofs.Pended.{none_pending}
use Rattle.jr_flow.proofs.pending.Pending.new.Goals as goal

pub returns-clause-right : goal.returns-clause-right
returns-clause-right c = let empty : IsEmpty c.new.result = search in let none : c.new-2.result.items ≡ [] = search in none_pending (record { numbers = c.new.result; lists = c.new-2.result }) empty none
