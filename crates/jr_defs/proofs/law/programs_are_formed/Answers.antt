use Rattle.jr_tree.specs.Rows.{program_rows}
use Rattle.jr_tree.proofs.Locals.{each_program_is_local}
use Rattle.jr_defs.proofs.Forming.{formed}
use Rattle.jr_defs.proofs.law.programs_are_formed.Goals as goal

pub returns : goal.returns
returns c units shaped bare = formed (program_rows units) (each_program_is_local units shaped) bare
