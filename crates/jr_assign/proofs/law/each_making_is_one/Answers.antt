use Rattle.jr_assign.proofs.Blank.{each_making}
use Rattle.jr_assign.proofs.law.each_making_is_one.Goals as goal

pub returns : goal.returns
returns c = each_making
