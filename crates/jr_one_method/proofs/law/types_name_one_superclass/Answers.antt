use Rattle.jr_one_method.proofs.OfRows.{one_superclass}
use Rattle.jr_one_method.proofs.law.types_name_one_superclass.Goals as goal

pub returns : goal.returns
returns c = one_superclass
