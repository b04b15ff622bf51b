use Rattle.jr_assign.proofs.Following.{each_member}
use Rattle.jr_assign.proofs.law.each_member_is_assigned.Goals as goal

pub returns : goal.returns
returns c = each_member
