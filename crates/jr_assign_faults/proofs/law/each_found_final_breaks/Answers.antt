use Rattle.jr_assign_faults.proofs.Finals.{each_found_final}
use Rattle.jr_assign_faults.proofs.law.each_found_final_breaks.Goals as goal

pub returns : goal.returns
returns c = each_found_final
