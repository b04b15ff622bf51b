use Rattle.jr_name_faults.proofs.Importing.{imports_start}
use Rattle.jr_name_faults.proofs.imports.Imports.new.Goals as goal

pub returns : goal.returns
returns c = λ placed. imports_start _ placed c.new.ensures c.new-2.ensures
