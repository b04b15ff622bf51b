-- The rows of shaped units have headers as the grammar has them.
use Rattle.jr_tree.specs.Rows.{program_rows}
use Rattle.jr_tree.proofs.Locals.{each_program_is_local}
use Rattle.jr_plain.proofs.Headed.{headed_from_local}
use Rattle.jr_one_method.proofs.OfRows.{is_behind}
use Rattle.jr_headed.specs.Heads.{ProgramsAreHeaded}

pub headed_programs : ProgramsAreHeaded
headed_programs units shaped = (headed_from_local (program_rows units) (each_program_is_local units shaped), is_behind units shaped)
