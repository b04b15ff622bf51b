use Rattle.jr_assign.proofs.Following.{each_member_once}
use Rattle.jr_assign.proofs.law.each_member_is_assigned_once.Goals as goal

pub returns : goal.returns
returns c = each_member_once
