use Rattle.jr_tree.specs.Rows.{program_rows}
use Rattle.jr_tree.proofs.Locals.{each_program_is_local}
use Rattle.jr_defs.proofs.Forming.{formed}
use Rattle.jr_defs.proofs.Settling.{one_binding}
use Rattle.jr_defs.proofs.law.units_have_at_most_one_binding.Goals as goal

pub returns : goal.returns
returns c units t u shaped bare a b = one_binding (program_rows units) t u (formed (program_rows units) (each_program_is_local units shaped) bare) a b
