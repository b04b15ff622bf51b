use Rattle.jr_assign_faults.proofs.Finals.{each_final}
use Rattle.jr_assign_faults.proofs.law.each_final_is_found.Goals as goal

pub returns : goal.returns
returns c = each_final
