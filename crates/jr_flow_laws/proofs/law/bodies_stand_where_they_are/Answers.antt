use Rattle.jr_flow_laws.proofs.Staying.{body_stays}
use Rattle.jr_flow_laws.proofs.law.bodies_stand_where_they_are.Goals as goal

pub returns : goal.returns
returns c = body_stays
