use Rattle.jr_copied_flow.proofs.Segments.{left_alone}
use Rattle.jr_copied_flow.proofs.law.segments_leave_bodies_alone.Goals as goal

pub returns : goal.returns
returns c = left_alone
