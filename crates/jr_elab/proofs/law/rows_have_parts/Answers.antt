use Rattle.jr_elab.proofs.Parted.{rows_have_parts}
use Rattle.jr_elab.proofs.law.rows_have_parts.Goals as goal

pub returns : goal.returns
returns c = rows_have_parts
