use Rattle.std.proofs.Common.{◌≡◌, []}
use Rattle.std.specs.HashMap.{IsEmpty}
use Rattle.jr_flow.proofs.Weaving.{none_numbered}
use Rattle.jr_flow.proofs.locals.Locals.new.Goals as goal

pub returns : goal.returns
returns c = λ points. let empty : IsEmpty c.new.result = search in let rows : c.new-2.result.items ≡ [] = search in let definitions : c.new-3.result.items ≡ [] = search in let uses : c.new-4.result.items ≡ [] = search in
    none_numbered points (record { numbers = c.new.result; rows = c.new-2.result; definitions = c.new-3.result; uses = c.new-4.result }) empty rows definitions uses
