use Rattle.jr_member_faults.proofs.Values.{variables_same}
use Rattle.jr_member_faults.proofs.law.variables_are_valued.Goals as goal

pub returns : goal.returns
returns c = λ p t k found same typable h d. variables_same p t k same typable found h d
