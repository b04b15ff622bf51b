use Rattle.jr_reach.proofs.OneReached.{each_is_reached}
use Rattle.jr_reach.proofs.law.each_row_is_reached_or_not.Goals as goal

pub returns : goal.returns
returns c = each_is_reached
