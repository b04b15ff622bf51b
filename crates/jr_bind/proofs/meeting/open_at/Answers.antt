use Rattle.jr_bind.proofs.Opening.{open_is}
use Rattle.jr_bind.proofs.meeting.open_at.Goals as goal

pub returns-clause-open : goal.returns-clause-open
returns-clause-open c = λ whole lt seeks. open_is _ _ _ _ _ _ _ _ c.type_of-met.ensures (c.in_ok-found.ensures whole lt seeks) c.unless_before.ensures.none c.unless_before.ensures.some
