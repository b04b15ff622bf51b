use Rattle.jr_tree.proofs.Locals.{each_program_is_local}
use Rattle.jr_tree.proofs.law.rows_stand_as_they_may.Goals as goal

pub returns : goal.returns
returns c = each_program_is_local
