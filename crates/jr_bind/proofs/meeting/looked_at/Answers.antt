use Rattle.jr_bind.proofs.Opening.{looked}
use Rattle.jr_bind.proofs.meeting.looked_at.Goals as goal

pub returns : goal.returns
returns c = λ whole lt seeks. looked c.args.sight.now c.args.at _ _ whole lt seeks c.look.ensures
