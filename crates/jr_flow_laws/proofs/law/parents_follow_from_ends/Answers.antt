use Rattle.jr_flow_laws.proofs.Parents.{parents_follow}
use Rattle.jr_flow_laws.proofs.law.parents_follow_from_ends.Goals as goal

pub returns : goal.returns
returns c = parents_follow
