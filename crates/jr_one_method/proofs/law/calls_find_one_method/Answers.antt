use Rattle.jr_tree.specs.Rows.{program_rows}
use Rattle.jr_defs.proofs.OneMethod.{one_method}
use Rattle.jr_one_method.proofs.OfRows.{one_superclass}
use Rattle.jr_one_method.proofs.law.calls_find_one_method.Goals as goal

pub returns : goal.returns
returns c units t k m f g shaped one h w = one_method (program_rows units) t (record { name = one_superclass units shaped; object = one }) k m f g h w
