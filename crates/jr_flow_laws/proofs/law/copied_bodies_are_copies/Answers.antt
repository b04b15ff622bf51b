use Rattle.jr_flow_laws.proofs.Keeping.{body_is_copied}
use Rattle.jr_flow_laws.proofs.law.copied_bodies_are_copies.Goals as goal

pub returns : goal.returns
returns c = body_is_copied
